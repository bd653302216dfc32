use Rattle.simulation.proofs.faithful_transforms_compose.Goals as goal
use Rattle.simulation.proofs.Compose.{composition_faithful}

pub returns : goal.returns
returns g c = composition_faithful _
