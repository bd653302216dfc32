use Rattle.format.proofs.Longest.{bytes_are_bounded}
use Rattle.format.proofs.round_trip.a_buffer_of_341040_bytes_holds_every_file.Goals as goal

pub returns : goal.returns
returns c = bytes_are_bounded
