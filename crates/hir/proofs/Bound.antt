-- What an optional result that came out was made of. Assumes nothing.
use Rattle.std.proofs.Common.{◌≡◌, ℕ, zero, suc, ◌+◌, ◌-◌, ◌<◌, ◌≤◌, Bool, true, false, cond, leb, ◌≢◌, List, [], ◌∷◌, length, get_or, take, drop, Some, None, Option, sym, refl, ap, ◌∙◌, ap₂, arith, length-drop, leb-true}
use Rattle.std.proofs.lemmas.List.{length-take-le, drop_more}
use Rattle.hir.specs.declared.range.Range.{Range}
use Rattle.hir.specs.Options.{bind, nth, part}

pub none_some : {X : Type 0} {x : X} → None ≡ Some x → ⊥
none_some e = let z : ◌≡◌ {A = ℕ} 0 1 = cc in omega arith

pub some_some : {X : Type 0} {x y : X} → Some x ≡ Some y → x ≡ y
some_some e = cc

pub bound : {X Y : Type 0} (o : Option X) (f : X → Option Y) (y : Y) → bind o f ≡ Some y → (x : X) × (o ≡ Some x) × (f x ≡ Some y)
bound None f y e = absurd (none_some e)
bound (Some x) f y e = (x, refl, e)

-- a `cond` that came out took its first way
pub taken : {Y : Type 0} (b : Bool) (o : Option Y) (y : Y) → cond b o None ≡ Some y → (b ≡ true) × (o ≡ Some y)
taken true o y e = (refl, e)
taken false o y e = absurd (none_some e)

-- the entry that a reading at k gives is the one there
pub nth_within : {X : Type 0} (xs : List X) (k : ℕ) (x : X) → nth xs k ≡ Some x → k < length xs
nth_within [] k x e = absurd (none_some e)
nth_within (y ∷ xs) zero x e = omega arith
nth_within (y ∷ xs) (suc k) x e = let r = nth_within xs k x e in omega arith

pub nth_read : {X : Type 0} (xs : List X) (k : ℕ) (x n : X) → nth xs k ≡ Some x → n ≡ get_or xs k n → n ≡ x
nth_read [] k x n e h = absurd (none_some e)
nth_read (y ∷ xs) zero x n e h = h ∙ some_some e
nth_read (y ∷ xs) (suc k) x n e h = nth_read xs k x n e h

-- a range that came out lies within, and gives its entries
pub record PartParts {X : Type 0} (xs : List X) (r : Range) (l : List X) : Type 0 where
  pub inside : r.start + r.count ≤ length xs
  pub is : take r.count (drop r.start xs) ≡ l
  pub long : length l ≡ r.count

pub part_parts : {X : Type 0} (xs : List X) (r : Range) (l : List X) → part xs r ≡ Some l → PartParts xs r l
part_parts xs r l e =
    let h = taken (leb (r.start + r.count) (length xs)) _ l e in
    let inside : r.start + r.count ≤ length xs = leb-true _ _ h.0 in
    let long : r.count ≤ length (drop r.start xs) = simp length-drop (omega arith) in
    let is = some_some h.1 in
    record { inside = inside; is = is; long = ap length (sym is) ∙ length-take-le r.count (drop r.start xs) long }

-- the first of the n entries from `start` on, and the others
pub cut : {X : Type 0} (xs : List X) (start n : ℕ) (x : X) → start + n ≤ length xs → n ≢ 0 → x ≡ get_or xs start x → take n (drop start xs) ≡ x ∷ take (n - 1) (drop (start + 1) xs)
cut xs start n x inside ne at =
    let h : start < length xs = omega arith in
    let m : n ≡ suc (n - 1) = omega arith in
    ap₂ take m (drop_more xs start x h ∙ ap (λ y. y ∷ drop (start + 1) xs) (sym at))
