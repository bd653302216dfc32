-- The turns of a value: its parts take its place.
-- What a part gives is taken by the task behind it.
use Rattle.std.proofs.Common.{◌≡◌, ℕ, suc, ◌-◌, ◌<◌, ◌≤◌, Bool, List, [], ◌∷◌, ◌++◌, length, Some, Option, refl, ap, ◌∙◌, arith}
use Rattle.hir.specs.declared.range.Range.{Range}
use Rattle.hir.specs.declared.value.InstructionValue.{InstructionValue}
use Rattle.hir.specs.declared.value.LogicalOperator.{LogicalOperator}
use Rattle.hir.specs.declared.value.ReactiveValue.TheVariants as V
use Rattle.hir.specs.Decode.{Slots, op_of}
use Rattle.hir.specs.Options.{nth}
use Rattle.hir.specs.Tree.{Op, operation, logical, conditional, sequence, optional}
use Rattle.semantics.specs.Machine.{Meaning, Result, bind}
use Rattle.semantics.specs.Exec.{operator_number, class, eval_op}
use Rattle.run.specs.declared.frame.Exit.{Exit}
use Rattle.run.specs.declared.frame.Exit.TheVariants as E
use Rattle.run.specs.declared.frame.Frame.{Frame}
use Rattle.run.specs.declared.frame.Frame.TheVariants as F
use Rattle.run.specs.Tasks.{value, instrs, after_left, after_test, resume}
use Rattle.run.specs.Turn.{Leads, Next, result, state_of}
use Rattle.run.proofs.Decoded.{value_in, value_deep, operation_parts, logical_parts, conditional_parts, sequence_parts, optional_parts}
use Rattle.run.proofs.Turning.{top, stay, goes, snoc_length}

module _ {S : Type 0} (H : Meaning S) (B : ℕ) (rec : ℕ → Option ℕ) (a : Slots) (W : ℕ) (w : Result S) (fs : List Frame) {x : Exit}
    {h : S} {σ : List ℕ} {given steps entries : ℕ} {recorded : Bool} (n : x ≡ E.Normal) where
  pub value_slot : (k d : ℕ) → Leads H B rec a W w (fs ++ F.Value k d ∷ []) x h σ given steps entries recorded → (k < length a.inner.values) × (1 ≤ d)
  value_slot k d ld =
      let m = (top H B rec a W w fs (F.Value k d) n ld).means in
      (value_in a.inner d k m.0 m.2, value_deep a.inner d k m.0 m.2)

  pub on_logical : (k d p : ℕ) (op : LogicalOperator) (l r : ℕ) → p ≡ suc (operator_number op) → nth a.inner.values k ≡ Some (V.LogicalExpression op l r)
      → Leads H B rec a W w (fs ++ F.Value k d ∷ []) x h σ given steps entries recorded
      → Next H B rec a W w fs (F.Value k d) steps ((fs ++ F.AfterLeft p r (d - 1) ∷ []) ++ F.Value l (d - 1) ∷ []) x h σ given steps entries recorded
  unfolding bind
  on_logical k d p op l r pe at ld =
      let o = top H B rec a W w fs (F.Value k d) n ld in
      let m = o.means in
      let q = logical_parts a.inner d k m.0 m.2 op l r at in
      let room = m.3 in
      let pos = q.5 in
      let len = snoc_length fs (F.AfterLeft p r (d - 1)) in
      stay H B rec a W w o (value (logical op q.0 q.1)) (m.1 ∙ ap value q.2) _ (value q.0 ∷ after_left p q.1 ∷ o.kont) n h σ given entries
      (F.Value l (d - 1), fs ++ F.AfterLeft p r (d - 1) ∷ [], refl, (q.0, refl, q.3, omega arith), (F.AfterLeft p r (d - 1), fs, refl, (q.1, refl, q.4, omega arith), o.stacked))
      (omega arith)
      (rw pe)
      (omega arith)

  pub on_conditional : (k d t l r : ℕ) → nth a.inner.values k ≡ Some (V.ConditionalExpression t l r)
      → Leads H B rec a W w (fs ++ F.Value k d ∷ []) x h σ given steps entries recorded
      → Next H B rec a W w fs (F.Value k d) steps ((fs ++ F.AfterTest l r (d - 1) ∷ []) ++ F.Value t (d - 1) ∷ []) x h σ given steps entries recorded
  unfolding bind
  on_conditional k d t l r at ld =
      let o = top H B rec a W w fs (F.Value k d) n ld in
      let m = o.means in
      let q = conditional_parts a.inner d k m.0 m.2 t l r at in
      let room = m.3 in
      let pos = q.7 in
      let len = snoc_length fs (F.AfterTest l r (d - 1)) in
      stay H B rec a W w o (value (conditional q.0 q.1 q.2)) (m.1 ∙ ap value q.3) _ (value q.0 ∷ after_test q.1 q.2 ∷ o.kont) n h σ given entries
      (F.Value t (d - 1), fs ++ F.AfterTest l r (d - 1) ∷ [], refl, (q.0, refl, q.4, omega arith), (F.AfterTest l r (d - 1), fs, refl, (q.1, q.2, refl, q.5, q.6, omega arith), o.stacked))
      (omega arith)
      refl
      (omega arith)

  pub on_sequence : (k d : ℕ) (r : Range) (i v : ℕ) → nth a.inner.values k ≡ Some (V.SequenceExpression r i v)
      → Leads H B rec a W w (fs ++ F.Value k d ∷ []) x h σ given steps entries recorded
      → Next H B rec a W w fs (F.Value k d) steps ((fs ++ F.Value v (d - 1) ∷ []) ++ F.Instructions r (d - 1) ∷ []) x h σ given steps entries recorded
  unfolding bind
  on_sequence k d r i v at ld =
      let o = top H B rec a W w fs (F.Value k d) n ld in
      let m = o.means in
      let q = sequence_parts a.inner d k m.0 m.2 r i v at in
      let room = m.3 in
      let pos = q.5 in
      let len = snoc_length fs (F.Value v (d - 1)) in
      stay H B rec a W w o (value (sequence q.0 i q.1)) (m.1 ∙ ap value q.2) _ (instrs q.0 ∷ value q.1 ∷ o.kont) n h σ given entries
      (F.Instructions r (d - 1), fs ++ F.Value v (d - 1) ∷ [], refl, (q.0, refl, q.3, omega arith), (F.Value v (d - 1), fs, refl, (q.1, refl, q.4, omega arith), o.stacked))
      (omega arith)
      refl
      (omega arith)

  pub on_optional : (k d v : ℕ) (b : Bool) → nth a.inner.values k ≡ Some (V.OptionalExpression v b)
      → Leads H B rec a W w (fs ++ F.Value k d ∷ []) x h σ given steps entries recorded
      → Next H B rec a W w fs (F.Value k d) steps (fs ++ F.Value v (d - 1) ∷ []) x h σ given steps entries recorded
  unfolding bind
  on_optional k d v b at ld =
      let o = top H B rec a W w fs (F.Value k d) n ld in
      let m = o.means in
      let q = optional_parts a.inner d k m.0 m.2 v b at in
      let room = m.3 in
      let pos = q.3 in
      stay H B rec a W w o (value (optional q.0 b)) (m.1 ∙ ap value q.1) _ (value q.0 ∷ o.kont) n h σ given entries
      (F.Value v (d - 1), fs, refl, (q.0, refl, q.2, omega arith), o.stacked)
      (omega arith)
      refl
      (omega arith)

  -- what an instruction's value does is told by its definition
  pub on_operation : (k d : ℕ) (i : InstructionValue) (y : Exit) (h' : S) (σ' : List ℕ) (given' : ℕ) → nth a.inner.values k ≡ Some (V.Instruction i)
      → ((o : Op) → op_of a.inner i ≡ Some o → result y (state_of h' σ' given' steps entries recorded) ≡ eval_op H (class o.kind) o (state_of h σ given steps entries recorded))
      → Leads H B rec a W w (fs ++ F.Value k d ∷ []) x h σ given steps entries recorded
      → Next H B rec a W w fs (F.Value k d) steps fs y h' σ' given' steps entries recorded
  unfolding bind
  on_operation k d i y h' σ' given' at e ld =
      let o = top H B rec a W w fs (F.Value k d) n ld in
      let m = o.means in
      let q = operation_parts a.inner d k m.0 m.2 i at in
      goes H B rec a W w o (value (operation q.0)) (m.1 ∙ ap value q.1) fs o.kont y h' σ' given' entries o.stacked (omega arith)
      (ap (resume H B rec o.kont) (e q.0 q.2))
      (omega arith)
