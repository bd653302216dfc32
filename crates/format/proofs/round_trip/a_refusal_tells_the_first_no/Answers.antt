use Rattle.format.proofs.Refusals.{first_no_is_told}
use Rattle.format.proofs.round_trip.a_refusal_tells_the_first_no.Goals as goal

pub returns : goal.returns
returns c = first_no_is_told
