-- Tables without a slot in use hold the empty function, at an empty root. Assumes nothing.
use Rattle.std.proofs.Common.{◌≡◌, true, [], length, is_some, Some, vec_items, unwrap_or, refl, ap, ◌∙◌, ap₂, arith, le-leb}
use Rattle.hir.specs.declared.arena.Arena.{Arena}
use Rattle.hir.specs.declared.environment.Environment.{Environment}
use Rattle.hir.specs.declared.range.Range.{Range}
use Rattle.hir.specs.Decode.{Slots, root_of}
use Rattle.hir.specs.Encode.{encode}
use Rattle.hir.specs.Held.{held, scopes_from, slots}
use Rattle.hir.specs.Limits.{within, limits}
use Rattle.hir.specs.Sizes.{sizes, none}
use Rattle.hir.specs.Tree.{nil, no_counters, empty, Function}

abbrev pub at_none : Range
at_none = record { start = 0; count = 0 }

pub root_empty : (s : Slots) → root_of s at_none ≡ Some nil
unfolding root_of
root_empty s = rw (le-leb 0 (length s.entries) (omega arith)) refl

pub held_empty : (e : Environment) (a : Arena) → e.counters ≡ no_counters → vec_items e.identifiers.vec ≡ [] → vec_items e.scopes.vec ≡ [] → held e a at_none ≡ empty
unfolding held
held_empty e a c i s =
    ap₂ (λ x y. record { counters = x; identifiers = y; scopes = scopes_from 0 (vec_items e.scopes.vec) (vec_items e.declarations.vec); body = unwrap_or (root_of (slots a) at_none) nil }) c i
    ∙ ap₂ (λ x y. record { counters = no_counters; identifiers = []; scopes = scopes_from 0 x (vec_items e.declarations.vec); body = unwrap_or y nil }) s (root_empty (slots a))

-- what the invariant of tables asks, of empty ones
pub empty_rooted : (a : Arena) → is_some (root_of (slots a) at_none) ≡ true
empty_rooted a = ap is_some (root_empty (slots a))

pub empty_measured : (F : Function) → F ≡ empty → 12 ≡ length (encode F)
unfolding encode
empty_measured F e = rw e refl

pub empty_counted : (F : Function) → F ≡ empty → within (sizes F) none ≡ true
unfolding within sizes
empty_counted F e = rw e refl

pub empty_limited : within none limits ≡ true
unfolding within
empty_limited = refl
