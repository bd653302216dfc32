use Rattle.load.specs.Reads.{cursor}
use Rattle.load.proofs.Chosen.{flag_below, flag_stop}
use Rattle.load.proofs.Stops.{handed_on}
use Rattle.load.proofs.reader.Reader.flag.Goals as goal

pub returns-in_err-below : goal.returns-in_err-below
returns-in_err-below c = rw (handed_on c.from_residual.result c.from_residual.ensures) (flag_stop (cursor c.args.self.now) c.in_err-below.ensures)

pub returns : goal.returns
returns c = flag_below (cursor c.args.self.now) c.in_ok-below.ensures
