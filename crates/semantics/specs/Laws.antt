-- Laws of the run: what a budget decides, what a bound on rounds does, how often a record returns, that no jump leaves. Each for every function and every host with states of the type S. Assumes nothing.
use Rattle.std.specs.Prelude.{◌≡◌, ℕ, suc, ◌≤◌, Bool, true, false, List}
use Rattle.hir.specs.Tree.{Function}
use Rattle.semantics.specs.Machine.{Meaning, normal, broke, continued, returned, threw, Result, done, spent}
use Rattle.semantics.specs.Exec.{exec, unbounded, last, ran, outcome_of}
use Rattle.semantics.specs.declared.Outcome.TheVariants.{Returned}

abbrev pub is_spent : {S : Type 0} → Result S → Bool
is_spent (done o t) = false
is_spent (spent t) = true

abbrev pub steps_of : {S : Type 0} → Result S → ℕ
steps_of r = (last r).steps

-- a statement about each run: of the function, on the host in its state, from the store
abbrev pub EachRun : (S : Type 0) → (Meaning S → Function → S → List ℕ → Type 0) → Type 0
EachRun S P = (H : Meaning S) (F : Function) (h : S) (σ : List ℕ) → P H F h σ

-- a run that is not spent has the same result under every larger budget
abbrev pub LargerBudgets : Type 0 → Type 0
LargerBudgets S = EachRun S (λ H F h σ. (B C : ℕ) → B ≤ C → is_spent (exec H F B h σ) ≡ false → exec H F C h σ ≡ exec H F B h σ)

-- so all budgets with which it is not spent give one result
abbrev pub OneResult : Type 0 → Type 0
OneResult S = EachRun S (λ H F h σ. (B C : ℕ) → is_spent (exec H F B h σ) ≡ false → is_spent (exec H F C h σ) ≡ false → exec H F B h σ ≡ exec H F C h σ)

-- a run is spent exactly when, given one step more, it takes it; then its steps are its budget, and they are never more
pub record SpentAt {S : Type 0} (H : Meaning S) (F : Function) (h : S) (σ : List ℕ) (B : ℕ) : Type 0 where
  pub wants_more : is_spent (exec H F B h σ) ≡ true → steps_of (exec H F (suc B) h σ) ≡ suc B
  pub only_then : steps_of (exec H F (suc B) h σ) ≡ suc B → is_spent (exec H F B h σ) ≡ true
  pub used_up : is_spent (exec H F B h σ) ≡ true → steps_of (exec H F B h σ) ≡ B
  pub never_over : steps_of (exec H F B h σ) ≤ B

abbrev pub SpentExactly : Type 0 → Type 0
SpentExactly S = EachRun S (λ H F h σ. (B : ℕ) → SpentAt H F h σ B)

-- the run with a bound on each loop's rounds: where it ends, more rounds change nothing
abbrev pub MoreRounds : Type 0 → Type 0
MoreRounds S = EachRun S (λ H F h σ. (f g : ℕ) → f ≤ g → is_spent (unbounded H F f h σ) ≡ false → unbounded H F g h σ ≡ unbounded H F f h σ)

-- it agrees with the run within a budget: each ends where the other does, with the same result
pub record AgreesAt {S : Type 0} (H : Meaning S) (F : Function) (h : S) (σ : List ℕ) : Type 0 where
  pub within_budget : (B : ℕ) → is_spent (exec H F B h σ) ≡ false → unbounded H F (suc B) h σ ≡ exec H F B h σ
  pub without : (B f : ℕ) → is_spent (unbounded H F f h σ) ≡ false → steps_of (unbounded H F f h σ) ≤ B → exec H F B h σ ≡ unbounded H F f h σ

abbrev pub RoundsAgree : Type 0 → Type 0
RoundsAgree S = EachRun S AgreesAt

abbrev pub bit : Bool → ℕ
bit true = 1
bit false = 0

-- a record returns at most once, so what a caller is told of it is the whole count; and only a run that returns has such a return
pub record RecordAt {S : Type 0} (r : Result S) : Type 0 where
  pub at_most_one : (last r).records ≡ bit (ran r).recorded
  pub returns : (ran r).recorded ≡ true → (v : ℕ) × (outcome_of r ≡ Returned v)

abbrev pub RecordsOnce : Type 0 → Type 0
RecordsOnce S = EachRun S (λ H F h σ. (B : ℕ) → RecordAt (exec H F B h σ))

-- a run that is not spent ends normally, returns or throws: every jump is taken inside the function
abbrev pub NoJump : {S : Type 0} → Result S → Type 0
NoJump (done normal t) = Unit {0}
NoJump (done (broke l) t) = ⊥
NoJump (done (continued l) t) = ⊥
NoJump (done (returned v) t) = Unit {0}
NoJump (done (threw v) t) = Unit {0}
NoJump (spent t) = Unit {0}

abbrev pub NoJumpLeaves : Type 0 → Type 0
NoJumpLeaves S = EachRun S (λ H F h σ. (B : ℕ) → NoJump (exec H F B h σ))
