-- Facts about each of a list, over appended lists; and what it means for appended lists to have no number twice.
-- The predicate is an argument: it is not read off from what is known of the items.
use Rattle.std.proofs.Common.{◌≡◌, ℕ, Bool, true, false, ◌||◌, eqb, List, [], ◌∷◌, ◌++◌, refl}
use Rattle.semantics.specs.Targets.{has}
use Rattle.simulation.specs.WellFormed.{All, Distinct}

module _ {A : Type 0} (P : A → Type 0) where
  pub all_left : (xs ys : List A) → All P (xs ++ ys) → All P xs
  all_left [] ys h = tt
  all_left (x ∷ xs) ys h = (h.0, all_left xs ys h.1)

  pub all_right : (xs ys : List A) → All P (xs ++ ys) → All P ys
  all_right [] ys h = h
  all_right (x ∷ xs) ys h = all_right xs ys h.1

  pub all_both : (xs ys : List A) → All P xs → All P ys → All P (xs ++ ys)
  all_both [] ys h k = k
  all_both (x ∷ xs) ys h k = (h.0, all_both xs ys h.1 k)

pub all_map : {A : Type 0} (P Q : A → Type 0) (xs : List A) → ((x : A) → P x → Q x) → All P xs → All Q xs
all_map P Q [] f h = tt
all_map P Q (x ∷ xs) f h = (f x h.0, all_map P Q xs f h.1)

or_left : (a b : Bool) → (a || b) ≡ false → a ≡ false
or_left true b e = e
or_left false b e = refl

or_right : (a b : Bool) → (a || b) ≡ false → b ≡ false
or_right true b e = cc
or_right false b e = e

pub hasnt_left : (x : ℕ) (xs ys : List ℕ) → has x (xs ++ ys) ≡ false → has x xs ≡ false
hasnt_left x [] ys h = refl
hasnt_left x (y ∷ xs) ys h = rw (or_left (eqb x y) (has x (xs ++ ys)) h) (hasnt_left x xs ys (or_right (eqb x y) _ h))

pub hasnt_right : (x : ℕ) (xs ys : List ℕ) → has x (xs ++ ys) ≡ false → has x ys ≡ false
hasnt_right x [] ys h = h
hasnt_right x (y ∷ xs) ys h = hasnt_right x xs ys (or_right (eqb x y) _ h)

pub distinct_left : (xs ys : List ℕ) → Distinct (xs ++ ys) → Distinct xs
distinct_left [] ys h = tt
distinct_left (x ∷ xs) ys h = (hasnt_left x xs ys h.0, distinct_left xs ys h.1)

pub distinct_right : (xs ys : List ℕ) → Distinct (xs ++ ys) → Distinct ys
distinct_right [] ys h = h
distinct_right (x ∷ xs) ys h = distinct_right xs ys h.1
