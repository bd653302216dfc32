-- Calls on a loaded function, and what the tables hold after them. Assumes nothing.
use Rattle.std.specs.Prelude.{Bool, cond, List, [], ◌∷◌, Some, None, Option}
use Rattle.hir.specs.Tree.{Function}
use Rattle.early_returns.specs.Pass.{propagate_early_returns}
use Rattle.label_pruning.specs.Pruning.{prune_labels}

-- a walk carries what its transform makes of a function, or that it refuses it
pub data Call : Type 0 where
  opening keeping taking_back running lowering pruning : Call
  walking : (Function → Option Function) → Call

-- a call that was made, and whether it was refused
pub record Made : Type 0 where
  pub call : Call
  pub refused : Bool

-- a settled function; or a draft: the function at its opening, and as it stands
pub data Held : Type 0 where
  settled : Function → Held
  draft : Function → Function → Held

-- what the tables hold, draft or settled
abbrev pub found : Held → Function
found (settled F) = F
found (draft F G) = G

abbrev pub or_as_it_was : Function → Option Function → Function
or_as_it_was G None = G
or_as_it_was G (Some K) = K

-- what a draft stands as after a change; a settled function is changed by none
abbrev pub changed : Held → (Function → Function) → Held
changed (settled F) f = settled F
changed (draft F G) f = draft F (f G)

-- what a call leaves that is not refused
abbrev pub leaves : Call → Held → Held
leaves opening (settled F) = draft F F
leaves opening (draft F G) = draft F G
leaves keeping (settled F) = settled F
leaves keeping (draft F G) = settled G
leaves taking_back (settled F) = settled F
leaves taking_back (draft F G) = settled F
leaves running h = h
leaves lowering h = changed h propagate_early_returns
leaves pruning h = changed h prune_labels
leaves (walking f) h = changed h (λ G. or_as_it_was G (f G))

-- a refusal changes nothing
abbrev pub after : Made → Held → Held
after m h = cond m.refused h (leaves m.call h)

abbrev pub after_all : List Made → Held → Held
after_all [] h = h
after_all (m ∷ ms) h = after_all ms (after m h)
