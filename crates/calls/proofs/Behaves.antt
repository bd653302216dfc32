-- A function that simulates a loaded one behaves as it, and its steps are few.
-- The loaded one enters no recorded scope, so the entries and the record's return counted are those of the later one.
use Rattle.std.proofs.Common.{◌≡◌, ℕ, true, false, ◌⊎◌, List, sym, refl, ap, ◌∙◌, inl, inr, arith}
use Rattle.hir.specs.Tree.{Function}
use Rattle.semantics.specs.Machine.{Meaning, State, Out, returned, Result, done, spent}
use Rattle.semantics.specs.Exec.{exec, outcome, ran, last}
use Rattle.semantics.specs.Laws.{is_spent, RecordAt}
use Rattle.semantics.specs.declared.Outcome.TheVariants.{Returned}
use Rattle.semantics.proofs.Records.{records_once}
use Rattle.simulation.specs.Faithful.{SameStart, NoMore, EndsAlike, Simulates}
use Rattle.calls.specs.Promise.{Loaded, Alike, Behaves}
use Rattle.calls.proofs.Unrecorded.{Even, unrecorded}

not_both : {A : Type 0} → true ≡ false → A
not_both e = let z : ◌≡◌ {A = ℕ} 0 1 = cc in absurd (omega arith)

module _ {S : Type 0} where
  alike : (r r' : Result S) (o : Out) (t t' : State S) → r ≡ done o t → r' ≡ done o t' → NoMore t t' → Even 0 0 (last r) → RecordAt r' → Alike r r'
  alike r r' o t t' e e' m z n =
      let z' : Even 0 0 t = rw e at z in
      let n' : RecordAt (done o t') = rw e' at n in
      rw e (rw e' (record {
        not_spent = refl;
        same_outcome = refl;
        same_host = sym m.same_host;
        few_steps = omega (arith, m.bare, z'.entries_same, z'.records_same, n'.at_most_one);
      }))

  module _ (F G : Function) (w : Loaded F) (sim : Simulates S F G) (H : Meaning S) (h : S) (σ σ' : List ℕ) (start : SameStart F G σ σ') where
    forth : (B : ℕ) (r : Result S) → exec H F B h σ ≡ r → is_spent r ≡ false → ((ran (exec H F B h σ)).outcome ≡ Returned 1) ⊎ ((C : ℕ) × Alike (exec H F B h σ) (exec H G C h σ'))
    forth B (spent t) e n = not_both n
    forth B (done o t) e n = go (sim.forth H h σ σ' start B o t e)
      where
        go : (o ≡ returned 1) ⊎ EndsAlike H G h σ' o t → ((ran (exec H F B h σ)).outcome ≡ Returned 1) ⊎ ((C : ℕ) × Alike (exec H F B h σ) (exec H G C h σ'))
        go (inl q) = inl (ap (λ r. (ran r).outcome) e ∙ ap outcome q)
        go (inr g) = inr (g.0, alike (exec H F B h σ) (exec H G g.0 h σ') o t g.1 e g.2 g.3 (unrecorded H F B h σ w.no_record) (records_once H G h σ' g.0))

    back : (C : ℕ) (r : Result S) → exec H G C h σ' ≡ r → is_spent r ≡ false → (B : ℕ) × (is_spent (exec H F B h σ) ≡ false)
    back C (spent t) e n = not_both n
    back C (done o t) e n = let g = sim.back H h σ σ' start C o t e in (g.0, ap is_spent g.3)

pub behaves : (S : Type 0) (F G : Function) → Loaded F → Simulates S F G → Behaves S F G
behaves S F G w sim = record {
  ends_alike = λ H h σ σ' start B n. forth F G w sim H h σ σ' start B (exec H F B h σ) refl n;
  ends_only_then = λ H h σ σ' start C n. back F G w sim H h σ σ' start C (exec H G C h σ') refl n;
}
