-- What is told of a run is what its definition says.
use Rattle.std.proofs.Common.{◌≡◌, ℕ, List, Some, None, Option, Result as Answer, ap, ◌∙◌}
use Rattle.fault.specs.declared.RunFault.{RunFault}
use Rattle.hir.specs.Tree.{Function}
use Rattle.screen.specs.Said.{lines}
use Rattle.semantics.specs.Exec.{exec, ran, last}
use Rattle.semantics.specs.Machine.{Meaning, Result as Part}
use Rattle.semantics.specs.declared.Ran.{Ran}
use Rattle.run.specs.Runs.{Answered, refusal}
use Rattle.run.specs.declared.memory.Memory.{Memory}
use Rattle.run_screen.specs.Running.{ran_lines, told_of, run_lines}

module _ {S : Type 0} (rest : S → ℕ) where
  by : (o : Option RunFault) (w : Part S) (m m' : Memory) (h h' : S) (σ σ' : List ℕ) (r : Answer Ran RunFault)
      → Answered o w m h σ r m' h' σ' → ran_lines r σ' (rest h') ≡ told_of rest o w
  by (Some f) w m m' h h' σ σ' r a = ap (λ x. ran_lines x σ' (rest h')) a.0
  by None w m m' h h' σ σ' r a =
      ap (λ x. ran_lines x σ' (rest h')) a.0 ∙ (ap (λ x. lines (ran w) x (rest h')) a.2 ∙ ap (λ x. lines (ran w) (last w).store (rest x)) a.1)

  pub told : (H : Meaning S) (F : Function) (B : ℕ) (m m' : Memory) (h h' : S) (σ σ' : List ℕ) (r : Answer Ran RunFault)
      → Answered (refusal F B σ) (exec H F B h σ) m h σ r m' h' σ' → ran_lines r σ' (rest h') ≡ run_lines H rest F B h σ
  told H F B m m' h h' σ σ' r a = by (refusal F B σ) (exec H F B h σ) m m' h h' σ σ' r a
