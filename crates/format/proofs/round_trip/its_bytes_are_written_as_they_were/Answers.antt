use Rattle.format.proofs.Bytes.{bytes_come_back}
use Rattle.format.proofs.round_trip.its_bytes_are_written_as_they_were.Goals as goal

pub returns : goal.returns
returns c = bytes_come_back
