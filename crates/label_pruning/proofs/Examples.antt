-- The examples of label pruning hold by computing.
-- They have no scopes and no identifiers: pruning looks at neither.
use Rattle.std.proofs.Common.{refl}
use Rattle.label_pruning.specs.Pruning.{prune_labels}
use Rattle.label_pruning.specs.Examples.{Examples}

pub examples_hold : Examples
unfolding prune_labels
examples_hold = record { untargeted = refl; empty = refl; targeted = refl; targeted_from_inside = refl; inner_one = refl; inner_loop = refl; both = refl; own_label = refl; no_label = refl; implicit_label = refl; in_every_statement = refl; loops_stay = refl }
