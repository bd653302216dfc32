use Rattle.semantics.proofs.laws.larger_budgets_change_nothing.Goals as goal
use Rattle.semantics.proofs.Budgets.{larger_budgets}

pub returns : goal.returns
returns g c = larger_budgets
