-- What a run of tables answers, and what it leaves. Assumes nothing.
use Rattle.std.specs.Prelude.{◌≡◌, ℕ, false, cond, List, [], ◌∷◌, length, Some, None, Ok, Err, vec_items, Option, Result, nat_lt}
use Rattle.fault.specs.declared.RunFault.{RunFault}
use Rattle.fault.specs.declared.RunFault.TheVariants.{StoreTooShort, BudgetTooLarge}
use Rattle.hir.specs.declared.tables.Tables.{Tables}
use Rattle.hir.specs.Tree.{Function}
use Rattle.host.specs.Asked.{Asked, Keeps, Reply}
use Rattle.semantics.specs.declared.Outcome.{Outcome}
use Rattle.semantics.specs.declared.Outcome.TheVariants.{Returned, Thrown, Ended, Spent}
use Rattle.semantics.specs.declared.Ran.{Ran}
use Rattle.semantics.specs.Machine.{Result as Part}
use Rattle.semantics.specs.Exec.{exec, last, ran}
use Rattle.run.specs.declared.frame.Exit.{Exit}
use Rattle.run.specs.declared.frame.Exit.TheVariants as E
use Rattle.run.specs.declared.frame.Frame.TheVariants as F
use Rattle.run.specs.declared.memory.Memory.{Memory}
use Rattle.run.specs.Turn.{host_of}

-- why a run is refused: its store, then its budget
abbrev pub refusal : Function → ℕ → List ℕ → Option RunFault
refusal F B σ =
    cond (nat_lt (length σ) (length F.identifiers)) (Some StoreTooShort)
    (cond (nat_lt 1000000000 B) (Some BudgetTooLarge) None)

module _ {S : Type 0} where
  -- a refusal changes nothing; a run that is not refused answers what the definition says, and leaves its store and its host
  abbrev pub Answered : Option RunFault → Part S → Memory → S → List ℕ → Result Ran RunFault → Memory → S → List ℕ → Type 0
  Answered (Some f) w m h σ r m' h' σ' = (r ≡ Err f) × (m' ≡ m) × (h' ≡ h) × (σ' ≡ σ)
  Answered None w m h σ r m' h' σ' = (r ≡ Ok (ran w)) × (h' ≡ (last w).host) × (σ' ≡ (last w).store)

  abbrev pub Answers : (answer : S → Asked → Reply) (next : S → Asked → S) → Keeps answer next → Function → ℕ → Memory → S → List ℕ → Result Ran RunFault → Memory → S → List ℕ → Type 0
  Answers answer next keeps F B m h σ r m' h' σ' = Answered (refusal F B σ) (exec (host_of answer next keeps) F B h σ) m h σ r m' h' σ'

-- what a caller is told of an exit
abbrev pub told : Exit → Outcome
told E.Normal = Ended
told (E.Broke l) = Ended
told (E.Continued l) = Ended
told (E.Returned v) = Returned v
told (E.Threw v) = Thrown v
told E.Spent = Spent

-- the whole body is left, and nothing is done
pub record Begun (m : Memory) (t : Tables) : Type 0 where
  pub frames : vec_items m.frames ≡ F.Block t.root 64 ∷ []
  pub exit : m.exit ≡ E.Normal
  pub given : m.given ≡ 0
  pub steps : m.steps ≡ 0
  pub entries : m.entries ≡ 0
  pub recorded : m.recorded ≡ false
