use Rattle.format.proofs.Rereads.{bytes_are_read}
use Rattle.format.proofs.round_trip.its_bytes_are_read.Goals as goal

pub returns : goal.returns
returns c = bytes_are_read
