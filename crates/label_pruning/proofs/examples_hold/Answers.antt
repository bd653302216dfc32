use Rattle.label_pruning.proofs.examples_hold.Goals as goal
use Rattle.label_pruning.proofs.Examples.{examples_hold}

pub returns : goal.returns
returns c = examples_hold
