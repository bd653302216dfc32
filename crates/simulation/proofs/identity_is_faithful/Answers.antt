use Rattle.simulation.proofs.identity_is_faithful.Goals as goal
use Rattle.simulation.proofs.Compose.{identity_faithful}

pub returns : goal.returns
returns g c = identity_faithful _
