use Rattle.semantics.proofs.laws.spent_exactly_when_a_step_is_missing.Goals as goal
use Rattle.semantics.proofs.Budgets.{spent_exactly}

pub returns : goal.returns
returns g c = spent_exactly
