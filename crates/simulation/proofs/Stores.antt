-- Reading and writing a store.
-- A place within the store holds what was written to it; the other places and the length stay.
use Rattle.std.proofs.Common.{◌≡◌, ℕ, zero, suc, ◌<◌, List, [], ◌∷◌, length, get_or, set, refl, le_of_suc-le-suc, not-suc-le-zero, length-set}
use Rattle.semantics.specs.Machine.{look, put}

set_here : (σ : List ℕ) (i v : ℕ) → i < length σ → get_or (set σ i v) i 0 ≡ v
set_here [] i v h = absurd (not-suc-le-zero h)
set_here (x ∷ σ) zero v h = refl
set_here (x ∷ σ) (suc i) v h = set_here σ i v (le_of_suc-le-suc h)

set_there : (σ : List ℕ) (i v j : ℕ) → (i ≡ j → ⊥) → get_or (set σ i v) j 0 ≡ get_or σ j 0
set_there [] i v j n = refl
set_there (x ∷ σ) zero v zero n = absurd (n refl)
set_there (x ∷ σ) zero v (suc j) n = refl
set_there (x ∷ σ) (suc i) v zero n = refl
set_there (x ∷ σ) (suc i) v (suc j) n = set_there σ i v j (λ e. n (rw e))

pub look_here : (σ : List ℕ) (i v : ℕ) → i < length σ → look (put σ i v) i ≡ v
unfolding look put
look_here σ i v h = set_here σ i v h

pub look_there : (σ : List ℕ) (i v j : ℕ) → (i ≡ j → ⊥) → look (put σ i v) j ≡ look σ j
unfolding look put
look_there σ i v j n = set_there σ i v j n

pub length_put : (σ : List ℕ) (i v : ℕ) → length (put σ i v) ≡ length σ
unfolding put
length_put σ i v = length-set σ i v
