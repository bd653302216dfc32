-- Options and rows of a list.
-- A row's first entry, and the row behind it.
use Rattle.std.proofs.Common.{◌≡◌, ℕ, zero, suc, ◌+◌, ◌-◌, ◌<◌, ◌≤◌, Bool, true, false, cond, leb, List, [], ◌∷◌, length, get_or, take, drop, Some, None, Option, sym, refl, ap, ◌∙◌, suc-le-suc, add-one, arith, drop-drop, drop-cons, leb-true}
use Rattle.std.proofs.lemmas.Bool.{le-leb}
use Rattle.hir.specs.declared.range.Range.{Range}
use Rattle.hir.specs.Options.{bind, nth, part}
use Rattle.run.specs.Frames.{behind}

pub none_some : {X : Type 0} {Y : Type 0} (y : Y) → ◌≡◌ {A = Option Y} None (Some y) → X
none_some y e = let z : ◌≡◌ {A = ℕ} 0 1 = cc in absurd (omega arith)

pub bound : {X Y : Type 0} (o : Option X) (f : X → Option Y) (y : Y) → bind o f ≡ Some y → (x : X) × (o ≡ Some x) × (f x ≡ Some y)
bound None f y e = none_some y e
bound (Some x) f y e = (x, refl, e)

pub some_is : {X : Type 0} {x y : X} → ◌≡◌ {A = Option X} (Some x) (Some y) → x ≡ y
some_is e = cc

pub none_of : {X : Type 0} (o : Option X) → ((x : X) → o ≡ Some x → ⊥) → o ≡ None
none_of None h = refl
none_of (Some x) h = absurd (h x refl)

pub nth_in : {X : Type 0} (xs : List X) (k : ℕ) (x : X) → nth xs k ≡ Some x → k < length xs
nth_in [] k x e = none_some x e
nth_in (y ∷ xs) zero x e = omega arith
nth_in (y ∷ xs) (suc k) x e = suc-le-suc (nth_in xs k x e)

pub nth_read : {X : Type 0} (xs : List X) (k : ℕ) (x : X) → k < length xs → x ≡ get_or xs k x → nth xs k ≡ Some x
nth_read [] k x h e = absurd (omega arith)
nth_read {X = X} (y ∷ xs) zero x h e = ap (λ (z : X). Some z) (sym e)
nth_read (y ∷ xs) (suc k) x h e = nth_read xs k x (omega arith) e

pub drop_nth : {X : Type 0} (xs : List X) (k : ℕ) (x : X) → nth xs k ≡ Some x → drop k xs ≡ x ∷ drop (suc k) xs
drop_nth [] k x e = none_some x e
drop_nth (y ∷ xs) zero x e = ap (λ (z : _). z ∷ xs) (some_is e)
drop_nth (y ∷ xs) (suc k) x e = drop_nth xs k x e

-- what is left of a list, and its first entry
pub next_of : {X : Type 0} (xs : List X) (i : ℕ) (d : X) → i < length xs → drop i xs ≡ get_or xs i d ∷ drop (i + 1) xs
next_of xs i d h = rw (add-one, drop-cons xs i d)

pub next_some : {X : Type 0} (xs : List X) (i : ℕ) → i < length xs → (x : X) × (drop i xs ≡ x ∷ drop (i + 1) xs)
next_some [] i h = absurd (omega arith)
next_some (x ∷ xs) i h = (get_or (x ∷ xs) i x, next_of (x ∷ xs) i x h)

pub row_in : {X : Type 0} (xs ys : List X) (r : Range) → part xs r ≡ Some ys → (r.start + r.count ≤ length xs) × (ys ≡ take r.count (drop r.start xs))
row_in xs ys r e = go (leb (r.start + r.count) (length xs)) refl e
  where
    go : (t : Bool) → leb (r.start + r.count) (length xs) ≡ t → cond t (Some (take r.count (drop r.start xs))) None ≡ Some ys
        → (r.start + r.count ≤ length xs) × (ys ≡ take r.count (drop r.start xs))
    go true h e = (leb-true _ _ h, sym (some_is e))
    go false h e = none_some ys e

pub row_of : {X : Type 0} (xs : List X) (r : Range) → r.start + r.count ≤ length xs → part xs r ≡ Some (take r.count (drop r.start xs))
row_of xs r h = rw (le-leb _ _ h)

pub behind_is : (q r : Range) (n : ℕ) → q.start ≡ r.start + n → q.count ≡ r.count - n → q ≡ behind r n
behind_is q r n es ec = rw (← es, ← ec)

pub is_row : {X : Type 0} (xs ys : List X) (r : Range) → r.start + r.count ≤ length xs → ys ≡ take r.count (drop r.start xs) → part xs r ≡ Some ys
is_row {X = X} xs ys r h e = row_of xs r h ∙ ap (λ (l : List X). Some l) (sym e)

pub row_nil : {X : Type 0} (xs ys : List X) (r : Range) → part xs r ≡ Some ys → r.count ≡ 0 → ys ≡ []
row_nil xs ys r e z = (row_in xs ys r e).1 ∙ ap (λ (n : ℕ). take n (drop r.start xs)) z

pub row_cons : {X : Type 0} (xs ys : List X) (r : Range) (x : X) → part xs r ≡ Some ys → 0 < r.count → nth xs r.start ≡ Some x
    → (zs : List X) × (ys ≡ x ∷ zs) × (part xs (behind r 1) ≡ Some zs)
row_cons {X = X} xs ys r x e p at =
    let h = row_in xs ys r e in
    let s : r.count ≡ suc (r.count - 1) = omega arith in
    let q : take r.count (drop r.start xs) ≡ x ∷ take (r.count - 1) (drop (suc r.start) xs) =
    ap (λ (n : ℕ). take n (drop r.start xs)) s ∙ ap (λ (l : List X). take (suc (r.count - 1)) l) (drop_nth xs r.start x at) in (
      take (r.count - 1) (drop (r.start + 1) xs),
      h.1 ∙ q ∙ ap (λ (n : ℕ). x ∷ take (r.count - 1) (drop n xs)) (sym (add-one r.start)),
      row_of xs (behind r 1) (let b = h.0 in omega arith),
    )

drop_take : {X : Type 0} (n m : ℕ) (xs : List X) → n ≤ m → drop n (take m xs) ≡ take (m - n) (drop n xs)
drop_take {X = X} zero m xs h = ap (λ (k : ℕ). take k xs) (let e : m ≡ m - 0 = omega arith in e)
drop_take {X = X} (suc n) zero xs h = absurd (omega arith)
drop_take {X = X} (suc n) (suc m) [] h = let e : suc m - suc n ≡ m - n = omega arith in rw e (go (m - n))
  where
    go : (k : ℕ) → ◌≡◌ {A = List X} [] (take k [])
    go zero = refl
    go (suc k) = refl
drop_take {X = X} (suc n) (suc m) (x ∷ xs) h = let e : suc m - suc n ≡ m - n = omega arith in let l : n ≤ m = omega arith in rw e (drop_take n m xs l)

pub row_behind : {X : Type 0} (xs ys : List X) (r : Range) (n : ℕ) → part xs r ≡ Some ys → n ≤ r.count → part xs (behind r n) ≡ Some (drop n ys)
row_behind {X = X} xs ys r n e h =
    let b = row_in xs ys r e in
    let l : (r.start + n) + (r.count - n) ≤ length xs = let c = b.0 in omega arith in
    row_of xs (behind r n) l
    ∙ ap (λ (l : List X). Some l) (ap (λ (l : List X). take (r.count - n) l) (sym (drop-drop n r.start xs)) ∙ sym (drop_take n r.count (drop r.start xs) h) ∙ ap (λ (l : List X). drop n l) (sym b.1))
