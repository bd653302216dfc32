use Rattle.semantics.proofs.laws.a_record_returns_at_most_once.Goals as goal
use Rattle.semantics.proofs.Records.{records_once}

pub returns : goal.returns
returns g c = records_once
