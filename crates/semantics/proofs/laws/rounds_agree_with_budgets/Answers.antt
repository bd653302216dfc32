use Rattle.semantics.proofs.laws.rounds_agree_with_budgets.Goals as goal
use Rattle.semantics.proofs.Budgets.{rounds_agree}

pub returns : goal.returns
returns g c = rounds_agree
