use Rattle.early_returns.proofs.examples_hold.Goals as goal
use Rattle.early_returns.proofs.Examples.{examples_hold}

pub returns : goal.returns
returns g c = examples_hold _
