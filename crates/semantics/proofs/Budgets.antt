-- The laws of budgets and rounds, in the words of the results.
-- Each turns "not spent" into an ending and cites what is proved of endings.
use Rattle.std.proofs.Common.{◌≡◌, ℕ, suc, ◌<◌, ◌≤◌, true, false, ◌⊎◌, List, sym, refl, ap, ◌∙◌, subst, inl, inr, arith}
use borrow.Author.Tests.{clash}
use Rattle.hir.specs.Tree.{Function}
use Rattle.semantics.specs.Machine.{Meaning, State, Out, Result, done, spent}
use Rattle.semantics.specs.Exec.{exec}
use Rattle.semantics.specs.Laws.{is_spent, steps_of, LargerBudgets, OneResult, SpentExactly, MoreRounds, RoundsAgree}
use Rattle.semantics.proofs.Link.{either_way, used_up, unbounded_exec, exec_unbounded, exec_larger}
use Rattle.semantics.proofs.Rounds.{more_rounds}

-- what holds of an ending holds of a result that is not spent
on_end : {S : Type 0} {r q : Result S} → ((o : Out) (t : State S) → r ≡ done o t → q ≡ done o t) → is_spent r ≡ false → q ≡ r
on_end {r = r} {q} g e = go r refl e
  where
    go : (x : Result _) → r ≡ x → is_spent x ≡ false → q ≡ r
    go (done o t) i e = g o t i ∙ sym i
    go (spent t) i e = absurd (clash (sym e))

pub larger_budgets : {S : Type 0} → LargerBudgets S
larger_budgets H F h σ B C i e = on_end (λ o t. exec_larger H F h σ B C o t i) e

pub one_result : {S : Type 0} → OneResult S
one_result H F h σ B C e i = go (either_way B C)
  where
    go : ((B ≤ C) ⊎ (C < B)) → exec H F B h σ ≡ exec H F C h σ
    go (inl k) = sym (larger_budgets H F h σ B C k e)
    go (inr k) = larger_budgets H F h σ C B (omega arith) i

module _ {S : Type 0} (H : Meaning S) (F : Function) (h : S) (σ : List ℕ) where
  ended_spent : (B C : ℕ) (o : Out) (t : State S) → exec H F B h σ ≡ done o t → is_spent (exec H F C h σ) ≡ true → C < t.steps
  ended_spent B C o t e i = go (either_way t.steps C)
    where
      go : ((t.steps ≤ C) ⊎ (C < t.steps)) → C < t.steps
      go (inl k) = absurd (clash (ap is_spent (sym (unbounded_exec H F h σ C (suc B) o t (exec_unbounded H F h σ B o t e).0 k)) ∙ i))
      go (inr k) = k

  never_over : (B : ℕ) → steps_of (exec H F B h σ) ≤ B
  never_over B = go (exec H F B h σ) refl
    where
      go : (x : Result S) → exec H F B h σ ≡ x → steps_of x ≤ B
      go (done o t) e = (exec_unbounded H F h σ B o t e).1
      go (spent t) e = let z = used_up H F h σ B t e in omega arith

  used : (B : ℕ) → is_spent (exec H F B h σ) ≡ true → steps_of (exec H F B h σ) ≡ B
  used B i = go (exec H F B h σ) refl i
    where
      go : (x : Result S) → exec H F B h σ ≡ x → is_spent x ≡ true → steps_of x ≡ B
      go (done o t) e i = absurd (clash i)
      go (spent t) e i = used_up H F h σ B t e

  wants_more : (B : ℕ) → is_spent (exec H F B h σ) ≡ true → steps_of (exec H F (suc B) h σ) ≡ suc B
  wants_more B i = go (exec H F (suc B) h σ) refl
    where
      go : (x : Result S) → exec H F (suc B) h σ ≡ x → steps_of x ≡ suc B
      go (done o t) e = let z = ended_spent (suc B) B o t e i in let k = (exec_unbounded H F h σ (suc B) o t e).1 in omega arith
      go (spent t) e = used_up H F h σ (suc B) t e

  only_then : (B : ℕ) → steps_of (exec H F (suc B) h σ) ≡ suc B → is_spent (exec H F B h σ) ≡ true
  only_then B i = go (exec H F B h σ) refl
    where
      go : (x : Result S) → exec H F B h σ ≡ x → is_spent x ≡ true
      go (done o t) e = let k = (exec_unbounded H F h σ B o t e).1 in let z : t.steps ≡ suc B = ap steps_of (sym (exec_larger H F h σ B (suc B) o t (omega arith) e)) ∙ i in absurd (omega arith)
      go (spent t) e = refl

pub spent_exactly : {S : Type 0} → SpentExactly S
spent_exactly H F h σ B = record { wants_more = wants_more H F h σ B; only_then = only_then H F h σ B; used_up = used H F h σ B; never_over = never_over H F h σ B }

pub more_rounds_alike : {S : Type 0} → MoreRounds S
more_rounds_alike H F h σ f g i e = on_end (λ o t. more_rounds H F h σ f g o t i) e

pub rounds_agree : {S : Type 0} → RoundsAgree S
rounds_agree H F h σ = record {
  within_budget = λ B e. on_end (λ o t i. (exec_unbounded H F h σ B o t i).0) e;
  without = λ B f e i. on_end (λ o t z. unbounded_exec H F h σ B f o t z (subst (λ (n : ℕ). n ≤ B) (ap steps_of z) i)) e;
}
