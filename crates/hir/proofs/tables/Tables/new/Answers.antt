use Rattle.std.proofs.Common.{◌≡◌, refl}
use Rattle.hir.specs.Held.{held}
use Rattle.hir.specs.Tree.{empty}
use Rattle.hir.proofs.Empty.{at_none, held_empty, empty_rooted, empty_measured, empty_counted, empty_limited}
use Rattle.hir.proofs.tables.Tables.new.Goals as goal

is_empty : (c : goal.In_ok-new-2) → held c.in_ok-new.field-0 c.in_ok-new-2.field-0 at_none ≡ empty
is_empty c = let h = c.in_ok-new.ensures in held_empty _ _ h.0 h.1 h.2

pub invariant_of-result : goal.invariant_of-result
invariant_of-result c = record { rooted = empty_rooted c.in_ok-new-2.field-0; measured = empty_measured _ (is_empty c); counted = empty_counted _ (is_empty c); limited = empty_limited }

pub returns : goal.returns
returns c = let h = c.in_ok-new.ensures in (held_empty _ _ h.0 h.1 h.2, refl, refl)
