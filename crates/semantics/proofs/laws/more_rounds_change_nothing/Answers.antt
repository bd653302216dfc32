use Rattle.semantics.proofs.laws.more_rounds_change_nothing.Goals as goal
use Rattle.semantics.proofs.Budgets.{more_rounds_alike}

pub returns : goal.returns
returns g c = more_rounds_alike
