use Rattle.format.proofs.Rereads.{words_are_read}
use Rattle.format.proofs.round_trip.what_is_written_within_the_limits_is_read.Goals as goal

pub returns : goal.returns
returns c = words_are_read
