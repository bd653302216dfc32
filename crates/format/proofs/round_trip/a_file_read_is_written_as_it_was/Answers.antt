use Rattle.format.proofs.Undone.{words_come_back}
use Rattle.format.proofs.round_trip.a_file_read_is_written_as_it_was.Goals as goal

pub returns : goal.returns
returns c = words_come_back
