use Rattle.format.proofs.Counts.{read_is_within}
use Rattle.format.proofs.round_trip.what_is_read_is_within_the_limits.Goals as goal

pub returns : goal.returns
returns c = read_is_within
