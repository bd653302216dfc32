use Rattle.semantics.proofs.laws.runs_stay_within_the_table.Goals as goal
use Rattle.semantics.proofs.Wide.{only_table}

pub returns : goal.returns
returns g c = only_table
