use Rattle.label_pruning.proofs.label_pruning_is_faithful.Goals as goal
use Rattle.label_pruning.proofs.Faithful.{pruning_faithful}

pub returns : goal.returns
returns g c = pruning_faithful _
