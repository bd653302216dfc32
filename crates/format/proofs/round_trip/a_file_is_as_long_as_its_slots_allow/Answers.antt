use Rattle.format.proofs.Longest.{words_are_bounded}
use Rattle.format.proofs.round_trip.a_file_is_as_long_as_its_slots_allow.Goals as goal

pub returns : goal.returns
returns c = words_are_bounded
