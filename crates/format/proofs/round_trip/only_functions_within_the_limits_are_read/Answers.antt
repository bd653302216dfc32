use Rattle.format.proofs.Fitting.{only_readable}
use Rattle.format.proofs.round_trip.only_functions_within_the_limits_are_read.Goals as goal

pub returns : goal.returns
returns c = only_readable
