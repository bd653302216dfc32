use Rattle.format.proofs.Counts.{sections_count}
use Rattle.format.proofs.round_trip.reading_counts_the_slots.Goals as goal

pub returns : goal.returns
returns c = sections_count
