-- What a step of decoding gives back: the entry, the row, and that what is inside decodes too.
use Rattle.std.proofs.Common.{◌≡◌, ℕ, zero, suc, ◌+◌, ◌<◌, ◌≤◌, List, [], ◌∷◌, length, take, drop, Some, None, Option, refl, arith, leb-true}
use Rattle.std.proofs.lemmas.Option.{none-some, cond_some}
use Rattle.hir.specs.declared.range.Range.{Range}
use Rattle.hir.specs.Options.{bind, nth, part}

pub bound : {X Y : Type 0} (o : Option X) (f : X → Option Y) (y : Y) → bind o f ≡ Some y → (x : X) × (o ≡ Some x) × (f x ≡ Some y)
bound None f y e = absurd (none-some y e)
bound (Some x) f y e = (x, refl, e)

pub part_row : {X : Type 0} (xs : List X) (r : Range) (l : List X) → part xs r ≡ Some l → (r.start + r.count ≤ length xs) × (take r.count (drop r.start xs) ≡ l)
part_row xs r l e = let h = cond_some _ _ l e in (leb-true _ _ h.0, h.1)

pub nth_within : {X : Type 0} (xs : List X) (k : ℕ) (x : X) → nth xs k ≡ Some x → k < length xs
nth_within [] k x e = absurd (none-some x e)
nth_within (z ∷ xs) zero x e = omega arith
nth_within (z ∷ xs) (suc k) x e = omega (arith, nth_within xs k x e)
