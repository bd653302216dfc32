-- What is promised of label pruning. Assumes nothing.
use Rattle.std.specs.Prelude.{◌≡◌, Some, Option}
use Rattle.hir.specs.Tree.{Function}
use Rattle.simulation.specs.WellFormed.{WellFormed}
use Rattle.simulation.specs.Faithful.{Faithful}
use Rattle.label_pruning.specs.Pruning.{prune_labels}

abbrev pub pruning : Function → Option Function
pruning F = Some (prune_labels F)

-- a change that prunes what it does not refuse
abbrev pub Prunes : (Function → Option Function) → Type 0
Prunes f = (F F' : Function) → WellFormed F → f F ≡ Some F' → F' ≡ prune_labels F

-- a pruned function does what it did, in no more steps
pub record PruningFaithful (S : Type 0) : Type 0 where
  pub with_room : Faithful S pruning
  pub unless_refused : (f : Function → Option Function) → Prunes f → Faithful S f
