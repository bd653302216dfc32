-- By the lemma of that name.
use Rattle.screen.proofs.Listed.{examples}
use Rattle.screen.proofs.laws.examples_as_listed.Goals as goal

pub returns : goal.returns
returns c = examples
