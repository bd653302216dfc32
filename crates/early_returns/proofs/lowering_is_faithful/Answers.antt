use Rattle.early_returns.proofs.lowering_is_faithful.Goals as goal
use Rattle.early_returns.proofs.Faithful.{lowering_faithful}

pub returns : goal.returns
returns g c = lowering_faithful _
