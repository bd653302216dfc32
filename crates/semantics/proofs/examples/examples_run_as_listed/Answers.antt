use Rattle.semantics.proofs.examples.examples_run_as_listed.Goals as goal
use Rattle.semantics.proofs.Computed.{examples_right}

pub returns : goal.returns
returns c = examples_right
