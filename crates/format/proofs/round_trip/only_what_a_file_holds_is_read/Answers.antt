use Rattle.format.proofs.Fitting.{only_held}
use Rattle.format.proofs.round_trip.only_what_a_file_holds_is_read.Goals as goal

pub returns : goal.returns
returns c = only_held
