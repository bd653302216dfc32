-- What is promised after a list of calls. Assumes nothing.
use Rattle.std.specs.Prelude.{◌≡◌, ℕ, ◌+◌, ◌*◌, ◌≤◌, Bool, true, false, ◌⊎◌, List, [], ◌∷◌, ◌++◌, None}
use Rattle.hir.specs.Tree.{Function}
use Rattle.semantics.specs.Machine.{Meaning, Result}
use Rattle.semantics.specs.Exec.{exec, ran, last}
use Rattle.semantics.specs.Laws.{is_spent, bit}
use Rattle.semantics.specs.Targets.{TgB, nowhere}
use Rattle.semantics.specs.declared.Outcome.TheVariants.{Returned}
use Rattle.simulation.specs.WellFormed.{All, WellFormed}
use Rattle.simulation.specs.Faithful.{SameStart, Faithful}
use Rattle.calls.specs.Calls.{Call, opening, keeping, taking_back, running, lowering, pruning, walking, Made, settled, found, after_all}

-- what a load gives: a well-formed function whose scopes have no record
pub record Loaded (F : Function) : Type 0 where
  pub well_formed : WellFormed F
  pub no_record : All (λ s. s.early ≡ None) F.scopes

-- each transform that is handed in is faithful; nothing is asked of the calls besides
abbrev pub HandedIn : Type 0 → Call → Type 0
HandedIn S opening = Unit {0}
HandedIn S keeping = Unit {0}
HandedIn S taking_back = Unit {0}
HandedIn S running = Unit {0}
HandedIn S lowering = Unit {0}
HandedIn S pruning = Unit {0}
HandedIn S (walking f) = Faithful S f

abbrev pub AllHandedIn : Type 0 → List Made → Type 0
AllHandedIn S ms = All (λ m. HandedIn S m.call) ms

-- a run of the loaded function that ended, against a run of the function found
pub record Alike {S : Type 0} (loaded later : Result S) : Type 0 where
  pub not_spent : is_spent later ≡ false
  pub same_outcome : (ran later).outcome ≡ (ran loaded).outcome
  pub same_host : (last later).host ≡ (last loaded).host
  -- six steps more for each entry to a recorded scope, and one if a record returned
  pub few_steps : (ran later).steps ≤ (ran loaded).steps + 6 * (ran later).entries + bit (ran later).recorded

-- the function G found behaves as the loaded one F, on hosts with states of the type S, from the same start
pub record Behaves (S : Type 0) (F G : Function) : Type 0 where
  -- where F ends, so does G, alike, unless F returns the sentinel 1
  pub ends_alike : (H : Meaning S) (h : S) (σ σ' : List ℕ) → SameStart F G σ σ' → (B : ℕ) → is_spent (exec H F B h σ) ≡ false
      → ((ran (exec H F B h σ)).outcome ≡ Returned 1) ⊎ ((C : ℕ) × Alike (exec H F B h σ) (exec H G C h σ'))
  -- where G ends, so does F
  pub ends_only_then : (H : Meaning S) (h : S) (σ σ' : List ℕ) → SameStart F G σ σ' → (C : ℕ) → is_spent (exec H G C h σ') ≡ false → (B : ℕ) × (is_spent (exec H F B h σ) ≡ false)

-- F was loaded, then the calls were made
pub record Holds (S : Type 0) (F : Function) (ms : List Made) : Type 0 where
  pub behaves : Behaves S F (found (after_all ms (settled F)))
  -- every jump has its target
  pub targets : TgB (found (after_all ms (settled F))).body nowhere
  pub well_formed : WellFormed (found (after_all ms (settled F)))

abbrev pub made : Call → Made
made c = record { call = c; refused = false }

-- calls that end no draft: every one but an unrefused keeping or taking back
abbrev pub ends_draft : Call → Bool
ends_draft opening = false
ends_draft keeping = true
ends_draft taking_back = true
ends_draft running = false
ends_draft lowering = false
ends_draft pruning = false
ends_draft (walking f) = false

abbrev pub EndsNone : Made → Type 0
EndsNone m = (m.refused ≡ true) ⊎ (ends_draft m.call ≡ false)

-- what is promised of lists of calls
pub record CallsPromise (S : Type 0) : Type 0 where
  -- whatever calls are made after a load, with faithful transforms
  pub holds : (F : Function) → Loaded F → (ms : List Made) → AllHandedIn S ms → Holds S F ms
  -- a draft that is taken back is as at its opening, whatever was made of it
  pub taken_back : (F : Function) (ms : List Made) → All EndsNone ms → after_all (made opening ∷ (ms ++ (made taking_back ∷ []))) (settled F) ≡ settled F
  -- a draft that is kept is as it stood
  pub kept : (F : Function) (ms : List Made) → after_all (ms ++ (made keeping ∷ [])) (settled F) ≡ settled (found (after_all ms (settled F)))
