-- What it means that a change of a function is faithful. Assumes nothing.
use Rattle.std.specs.Prelude.{◌≡◌, ℕ, ◌+◌, ◌*◌, ◌<◌, ◌≤◌, ◌⊎◌, List, length, Some, None, Option}
use Rattle.hir.specs.Tree.{Function}
use Rattle.semantics.specs.Machine.{Meaning, State, Out, returned, done, look}
use Rattle.semantics.specs.Exec.{exec}
use Rattle.simulation.specs.WellFormed.{WellFormed}

-- stores to start on: each as long as its function's identifier table, and equal in the first one's identifiers
pub record SameStart (F F' : Function) (σ σ' : List ℕ) : Type 0 where
  pub first_long : length F.identifiers ≤ length σ
  pub second_long : length F'.identifiers ≤ length σ'
  pub same : (i : ℕ) → i < length F.identifiers → look σ i ≡ look σ' i

module _ {S : Type 0} where
  -- the run is not spent with the budget B, and ends so
  abbrev pub Ends : Meaning S → Function → S → List ℕ → ℕ → Out → State S → Type 0
  Ends H F h σ B o t = exec H F B h σ ≡ done o t

  -- equal host states, and no more bare steps in the second: steps less six for each entry, less one for a record's return
  pub record NoMore (t t' : State S) : Type 0 where
    pub same_host : t.host ≡ t'.host
    pub bare : t'.steps + 6 * t.entries + t.records ≤ t.steps + 6 * t'.entries + t'.records

  -- the run ends alike, under some budget
  abbrev pub EndsAlike : Meaning S → Function → S → List ℕ → Out → State S → Type 0
  EndsAlike H F h σ o t = (B : ℕ) × (t' : State S) × Ends H F h σ B o t' × NoMore t t'

-- for every host with states of the type S
pub record Simulates (S : Type 0) (F F' : Function) : Type 0 where
  pub grows : length F.identifiers ≤ length F'.identifiers
  -- where F ends, F' ends alike, unless F returns the sentinel 1
  pub forth : (H : Meaning S) (h : S) (σ σ' : List ℕ) → SameStart F F' σ σ' → (B : ℕ) (o : Out) (t : State S) → Ends H F h σ B o t → (o ≡ returned 1) ⊎ EndsAlike H F' h σ' o t
  -- where F' ends, F ends
  pub back : (H : Meaning S) (h : S) (σ σ' : List ℕ) → SameStart F F' σ σ' → (B' : ℕ) (o' : Out) (t' : State S) → Ends H F' h σ' B' o' t' → (B : ℕ) × (o : Out) × (t : State S) × Ends H F h σ B o t

pub record Kept (S : Type 0) (F F' : Function) : Type 0 where
  pub well_formed : WellFormed F'
  pub simulates : Simulates S F F'

-- a change that may refuse is faithful if it turns well-formed functions into well-formed ones that simulate them
abbrev pub Faithful : (S : Type 0) → (Function → Option Function) → Type 0
Faithful S f = (F F' : Function) → WellFormed F → f F ≡ Some F' → Kept S F F'

abbrev pub stay : Function → Option Function
stay F = Some F

abbrev pub then : (Function → Option Function) → Option Function → Option Function
then g None = None
then g (Some F) = g F

-- one change after the other
abbrev pub after : (Function → Option Function) → (Function → Option Function) → Function → Option Function
after g f F = then g (f F)

abbrev pub IdentityFaithful : Type 0 → Type 0
IdentityFaithful S = Faithful S stay

abbrev pub CompositionFaithful : Type 0 → Type 0
CompositionFaithful S = (f g : Function → Option Function) → Faithful S f → Faithful S g → Faithful S (after g f)
