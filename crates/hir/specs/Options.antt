-- Results that may be missing, and entries of lists. Assumes nothing.
use Rattle.std.specs.Prelude.{ℕ, zero, suc, ◌+◌, cond, List, [], ◌∷◌, length, take, drop, Some, None, Option, nat_le}
use Rattle.hir.specs.declared.range.Range.{Range}

abbrev pub bind : {X Y : Type 0} → Option X → (X → Option Y) → Option Y
bind None f = None
bind (Some x) f = f x

abbrev pub nth : {X : Type 0} → List X → ℕ → Option X
nth [] k = None
nth (x ∷ xs) zero = Some x
nth (x ∷ xs) (suc k) = nth xs k

-- the entries in a range, where it lies within the list
abbrev pub part : {X : Type 0} → List X → Range → Option (List X)
part xs r = cond (nat_le (r.start + r.count) (length xs)) (Some (take r.count (drop r.start xs))) None
