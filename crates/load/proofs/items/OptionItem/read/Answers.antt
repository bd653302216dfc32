use Rattle.std.proofs.Common.{rules}
use Rattle.load.proofs.Chosen.{by_flag}
use Rattle.load.proofs.items.OptionItem.read.Goals as goal

pub returns-in_err-flag : goal.returns-in_err-flag
returns-in_err-flag g c = rw by_flag (search rules)

pub returns-in_err-item : goal.returns-in_err-item
returns-in_err-item g c = rw by_flag (search rules)

pub returns-in_ok-item : goal.returns-in_ok-item
returns-in_ok-item g c = rw by_flag (search rules)

pub returns-else-branch : goal.returns-else-branch
returns-else-branch g c = rw by_flag (search rules)
