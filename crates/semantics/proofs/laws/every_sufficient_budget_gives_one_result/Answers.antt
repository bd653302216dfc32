use Rattle.semantics.proofs.laws.every_sufficient_budget_gives_one_result.Goals as goal
use Rattle.semantics.proofs.Budgets.{one_result}

pub returns : goal.returns
returns g c = one_result
