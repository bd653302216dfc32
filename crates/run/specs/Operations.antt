-- What an instruction's own value does to the host, the store and the value given. Assumes nothing.
use Rattle.std.specs.Prelude.{◌≡◌, ℕ, Bool, List, Ok, Err, Result}
use Rattle.hir.specs.declared.place.Place.{Place}
use Rattle.hir.specs.declared.value.InstructionValue.{InstructionValue}
use Rattle.host.specs.Asked.{Asked, asked}
use Rattle.host.specs.declared.Host.{Ghosts}
use Rattle.host.specs.declared.Thrown.{Thrown}
use Rattle.semantics.specs.Machine.{normal, done, gave, bind, ask, ask_each}
use Rattle.semantics.specs.Exec.{Class, loads, declares, stores, asks_each, asks, class, eval_op}
use Rattle.run.specs.declared.frame.Exit.{Exit}
use Rattle.run.specs.declared.frame.Exit.TheVariants as E
use Rattle.run.specs.declared.operations.Class.{Class as Named}
use Rattle.run.specs.declared.operations.Class.TheVariants as C
use Rattle.run.specs.Turn.{meaning, result, state_of}

abbrev pub named : Named → Class
named C.Loads = loads
named C.Declares = declares
named C.Stores = stores
named C.AsksEach = asks_each
named C.Asks = asks

-- how a value ended
abbrev pub ended : Result (Unit {0}) Thrown → Exit
ended (Ok d) = E.Normal
ended (Err t) = E.Threw t.0

-- a question about an instruction's value
abbrev pub about : InstructionValue → ℕ → List ℕ → Asked
about i n vs = asked (record { kind = i.kind; payload = i.payload; position = n }) vs

-- whatever was counted before, and is not changed: steps, entries, and whether a record returned
module _ {T : Type 0} (H : Ghosts T) (i : InstructionValue) where
  -- a question for each written place
  abbrev pub AsksEach : List ℕ → List Place → ℕ → H.State → List ℕ → Result (Unit {0}) Thrown → ℕ → H.State → List ℕ → Type 0
  AsksEach vs ps given h σ r given' h' σ' =
      (steps entries : ℕ) (recorded : Bool)
      → ask_each (meaning H) i.kind i.payload vs 1 ps (state_of h σ given steps entries recorded) ≡ result (ended r) (state_of h' σ' given' steps entries recorded)

  -- after one at position 0, whose answer is given
  abbrev pub AsksAll : List ℕ → List Place → ℕ → H.State → List ℕ → Result (Unit {0}) Thrown → ℕ → H.State → List ℕ → Type 0
  AsksAll vs ps given h σ r given' h' σ' =
      (steps entries : ℕ) (recorded : Bool)
      → ask (meaning H) i.kind i.payload 0 vs (state_of h σ given steps entries recorded)
      (λ t. bind (ask_each (meaning H) i.kind i.payload vs 1 ps t) (λ u. done normal (gave u t.given))) ≡ result (ended r) (state_of h' σ' given' steps entries recorded)

  -- the whole value, from its rows
  abbrev pub Does : List Place → List Place → ℕ → H.State → List ℕ → Result (Unit {0}) Thrown → ℕ → H.State → List ℕ → Type 0
  Does operands written given h σ r given' h' σ' =
      (steps entries : ℕ) (recorded : Bool)
      → result (ended r) (state_of h' σ' given' steps entries recorded)
      ≡ eval_op (meaning H) (class i.kind) (record { kind = i.kind; payload = i.payload; written = written; operands = operands; span = i.span }) (state_of h σ given steps entries recorded)
