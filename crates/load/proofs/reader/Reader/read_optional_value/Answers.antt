use Rattle.std.proofs.Common.{rules}
use Rattle.load.specs.Reads.{cursor}
use Rattle.load.proofs.BlockSteps.{room_later, no_value, some_value}
use Rattle.load.proofs.Chosen.{by_flag}
use Rattle.load.proofs.Later.{flag_later}
use Rattle.load.proofs.reader.Reader.read_optional_value.Goals as goal

pub returns-in_err-flag : goal.returns-in_err-flag
returns-in_err-flag c = rw by_flag (search rules)

pub returns-in_err-read_top_value : goal.returns-in_err-read_top_value
returns-in_err-read_top_value c = rw by_flag (search rules)

pub read_top_value-requires : goal.read_top_value-requires
read_top_value-requires c = room_later c.requires (flag_later (cursor c.args.self.now) _ c.in_ok-flag.ensures)

pub returns-else-branch : goal.returns-else-branch
returns-else-branch c = no_value c.in_ok-flag.ensures c.if-branch.false

pub returns-in_ok-read_top_value : goal.returns-in_ok-read_top_value
returns-in_ok-read_top_value c = some_value c.in_ok-flag.ensures c.if-branch.true c.in_ok-read_top_value.ensures
