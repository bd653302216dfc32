-- The turns of the tasks that a value leaves: a sequence's instructions, what takes a value, what tests one.
-- An instruction of a sequence costs a step.
use Rattle.std.proofs.Common.{◌≡◌, ℕ, suc, ◌+◌, ◌<◌, ◌≤◌, Bool, true, false, eqb, ltb, List, [], ◌∷◌, ◌++◌, length, Some, None, Option, refl, ap, ◌∙◌, arith, Ok}
use Rattle.host.specs.Asked.{thrown}
use Rattle.std.proofs.lemmas.Bool.{lt-ltb, le-ltb}
use Rattle.hir.specs.declared.place.Place.{Place}
use Rattle.hir.specs.declared.range.Range.{Range}
use Rattle.hir.specs.declared.value.ReactiveInstruction.{ReactiveInstruction}
use Rattle.hir.specs.Decode.{Slots}
use Rattle.hir.specs.Options.{nth}
use Rattle.hir.specs.Tree.{inil, icons, instr}
use Rattle.semantics.specs.Machine.{Meaning, Result, bind, branch, ask, on_reply, tick}
use Rattle.run.specs.declared.frame.Exit.{Exit}
use Rattle.run.specs.declared.frame.Exit.TheVariants as E
use Rattle.run.specs.declared.frame.Frame.{Frame}
use Rattle.run.specs.declared.frame.Frame.TheVariants as F
use Rattle.run.specs.Frames.{behind}
use Rattle.run.specs.Tasks.{value, assigns, instrs, after_left, after_test}
use Rattle.run.specs.Turn.{Leads, Next, kept, test_of}
use Rattle.run.proofs.Decoded.{instrs_in, instrs_end, instrs_first}
use Rattle.run.proofs.Stack.{later}
use Rattle.run.proofs.Turning.{top, stay, goes, paying, snoc_length}

module _ {S : Type 0} (H : Meaning S) (B : ℕ) (rec : ℕ → Option ℕ) (a : Slots) (W : ℕ) (w : Result S) (fs : List Frame) {x : Exit}
    {h : S} {σ : List ℕ} {given steps entries : ℕ} {recorded : Bool} (n : x ≡ E.Normal) where
  -- ---- a sequence's instructions
  pub instrs_row : (r : Range) (d : ℕ) → Leads H B rec a W w (fs ++ F.Instructions r d ∷ []) x h σ given steps entries recorded → r.start + r.count ≤ length a.inner.instructions
  instrs_row r d ld = let m = (top H B rec a W w fs (F.Instructions r d) n ld).means in instrs_in a.inner d r m.0 m.2

  pub on_instrs_end : (r : Range) (d : ℕ) → r.count ≡ 0
      → Leads H B rec a W w (fs ++ F.Instructions r d ∷ []) x h σ given steps entries recorded
      → Next H B rec a W w fs (F.Instructions r d) steps fs x h σ given steps entries recorded
  unfolding bind
  on_instrs_end r d z ld =
      let o = top H B rec a W w fs (F.Instructions r d) n ld in
      let m = o.means in
      stay H B rec a W w o (instrs inil) (m.1 ∙ ap instrs (instrs_end a.inner d r m.0 m.2 z)) fs o.kont n h σ given entries o.stacked (omega arith) refl (omega arith)

  pub on_instrs_spent : (r : Range) (d : ℕ) (i : ReactiveInstruction) → 0 < r.count → nth a.inner.instructions r.start ≡ Some i → B ≤ steps
      → Leads H B rec a W w (fs ++ F.Instructions r d ∷ []) x h σ given steps entries recorded
      → Next H B rec a W w fs (F.Instructions r d) steps fs E.Spent h σ given steps entries recorded
  unfolding bind tick branch
  on_instrs_spent r d i c at b ld =
      let o = top H B rec a W w fs (F.Instructions r d) n ld in
      let m = o.means in
      let q = instrs_first a.inner d r m.0 m.2 i c at in
      let t : ltb steps B ≡ false = le-ltb steps B b in
      goes H B rec a W w o (instrs (icons (instr i.id i.lvalue q.0 i.span) q.1)) (m.1 ∙ ap instrs q.2) fs o.kont E.Spent h σ given entries o.stacked (omega arith) (rw t) (omega arith)

  pub on_instrs_first : (r : Range) (d : ℕ) (i : ReactiveInstruction) → 0 < r.count → nth a.inner.instructions r.start ≡ Some i → steps < B
      → Leads H B rec a W w (fs ++ F.Instructions r d ∷ []) x h σ given steps entries recorded
      → Next H B rec a W w fs (F.Instructions r d) steps (((fs ++ F.Instructions (behind r 1) d ∷ []) ++ F.Assigns i.lvalue ∷ []) ++ F.Value i.value d ∷ []) x h σ given (steps + 1) entries recorded
  unfolding bind tick branch
  on_instrs_first r d i c at b ld =
      let o = top H B rec a W w fs (F.Instructions r d) n ld in
      let m = o.means in
      let room = m.3 in
      let q = instrs_first a.inner d r m.0 m.2 i c at in
      let t : ltb steps B ≡ true = lt-ltb steps B b in
      let g = fs ++ F.Instructions (behind r 1) d ∷ [] in
      let len = snoc_length fs (F.Instructions (behind r 1) d) in
      let len' = snoc_length g (F.Assigns i.lvalue) in
      let is : o.task ≡ instrs (icons (instr i.id i.lvalue q.0 i.span) q.1) = m.1 ∙ ap instrs q.2 in
      let light = rw is at o.light in
      paying H B rec a W w o (instrs (icons (instr i.id i.lvalue q.0 i.span) q.1)) is _ (value q.0 ∷ assigns i.lvalue ∷ instrs q.1 ∷ o.kont) n h σ given entries (
        F.Value i.value d,
        g ++ F.Assigns i.lvalue ∷ [],
        refl,
        (q.0, refl, q.3, omega arith),
        (F.Assigns i.lvalue, g, refl, refl, (F.Instructions (behind r 1) d, fs, refl, (q.1, refl, q.4, omega arith), later a B W steps (suc steps) fs o.kont (omega arith) o.stacked)),
      )
      (omega arith)
      b
      (rw t)
      (omega arith)

  -- ---- what takes a value
  pub on_assigns : (p : Option Place) (σ' : List ℕ) → σ' ≡ kept p σ given
      → Leads H B rec a W w (fs ++ F.Assigns p ∷ []) x h σ given steps entries recorded
      → Next H B rec a W w fs (F.Assigns p) steps fs x h σ' given steps entries recorded
  unfolding bind
  on_assigns None σ' e ld =
      let o = top H B rec a W w fs (F.Assigns None) n ld in
      stay H B rec a W w o (assigns None) o.means fs o.kont n h σ' given entries o.stacked (omega arith) (rw e) (omega arith)
  on_assigns (Some p) σ' e ld =
      let o = top H B rec a W w fs (F.Assigns (Some p)) n ld in
      stay H B rec a W w o (assigns (Some p)) o.means fs o.kont n h σ' given entries o.stacked (omega arith) (rw e) (omega arith)

  -- ---- what tests one
  module _ (p : ℕ) (v : ℕ) (h' : S) (eh : h' ≡ H.next h (test_of p given)) where
    pub on_left_threw : (k d : ℕ) → thrown v ≡ H.answer h (test_of p given)
        → Leads H B rec a W w (fs ++ F.AfterLeft p k d ∷ []) x h σ given steps entries recorded
        → Next H B rec a W w fs (F.AfterLeft p k d) steps fs (E.Threw v) h' σ given steps entries recorded
    unfolding bind ask on_reply
    on_left_threw k d ea ld =
        let o = top H B rec a W w fs (F.AfterLeft p k d) n ld in
        let m = o.means in
        goes H B rec a W w o (after_left p m.0) m.1 fs o.kont (E.Threw v) h' σ given entries o.stacked (omega arith) (rw (eh, ← ea)) (omega arith)

    pub on_left_yes : (k d : ℕ) → Ok v ≡ H.answer h (test_of p given) → eqb v 0 ≡ false
        → Leads H B rec a W w (fs ++ F.AfterLeft p k d ∷ []) x h σ given steps entries recorded
        → Next H B rec a W w fs (F.AfterLeft p k d) steps (fs ++ F.Value k d ∷ []) x h' σ v steps entries recorded
    unfolding bind ask on_reply branch
    on_left_yes k d ea b ld =
        let o = top H B rec a W w fs (F.AfterLeft p k d) n ld in
        let m = o.means in
        stay H B rec a W w o (after_left p m.0) m.1 _ (value m.0 ∷ o.kont) n h' σ v entries (F.Value k d, fs, refl, (m.0, refl, m.2, m.3), o.stacked) (omega arith) (rw (eh, ← ea, b)) (omega arith)

    pub on_left_no : (k d : ℕ) → Ok v ≡ H.answer h (test_of p given) → eqb v 0 ≡ true
        → Leads H B rec a W w (fs ++ F.AfterLeft p k d ∷ []) x h σ given steps entries recorded
        → Next H B rec a W w fs (F.AfterLeft p k d) steps fs x h' σ given steps entries recorded
    unfolding bind ask on_reply branch
    on_left_no k d ea b ld =
        let o = top H B rec a W w fs (F.AfterLeft p k d) n ld in
        let m = o.means in
        stay H B rec a W w o (after_left p m.0) m.1 fs o.kont n h' σ given entries o.stacked (omega arith) (rw (eh, ← ea, b)) (omega arith)

  module _ (v : ℕ) (h' : S) (eh : h' ≡ H.next h (test_of 0 given)) where
    pub on_test_threw : (k l d : ℕ) → thrown v ≡ H.answer h (test_of 0 given)
        → Leads H B rec a W w (fs ++ F.AfterTest k l d ∷ []) x h σ given steps entries recorded
        → Next H B rec a W w fs (F.AfterTest k l d) steps fs (E.Threw v) h' σ given steps entries recorded
    unfolding bind ask on_reply
    on_test_threw k l d ea ld =
        let o = top H B rec a W w fs (F.AfterTest k l d) n ld in
        let m = o.means in
        goes H B rec a W w o (after_test m.0 m.1) m.2 fs o.kont (E.Threw v) h' σ given entries o.stacked (omega arith) (rw (eh, ← ea)) (omega arith)

    pub on_test_yes : (k l d : ℕ) → Ok v ≡ H.answer h (test_of 0 given) → eqb v 0 ≡ false
        → Leads H B rec a W w (fs ++ F.AfterTest k l d ∷ []) x h σ given steps entries recorded
        → Next H B rec a W w fs (F.AfterTest k l d) steps (fs ++ F.Value k d ∷ []) x h' σ v steps entries recorded
    unfolding bind ask on_reply branch
    on_test_yes k l d ea b ld =
        let o = top H B rec a W w fs (F.AfterTest k l d) n ld in
        let m = o.means in
        stay H B rec a W w o (after_test m.0 m.1) m.2 _ (value m.0 ∷ o.kont) n h' σ v entries (F.Value k d, fs, refl, (m.0, refl, m.3, m.5), o.stacked) (omega arith) (rw (eh, ← ea, b)) (omega arith)

    pub on_test_no : (k l d : ℕ) → Ok v ≡ H.answer h (test_of 0 given) → eqb v 0 ≡ true
        → Leads H B rec a W w (fs ++ F.AfterTest k l d ∷ []) x h σ given steps entries recorded
        → Next H B rec a W w fs (F.AfterTest k l d) steps (fs ++ F.Value l d ∷ []) x h' σ v steps entries recorded
    unfolding bind ask on_reply branch
    on_test_no k l d ea b ld =
        let o = top H B rec a W w fs (F.AfterTest k l d) n ld in
        let m = o.means in
        stay H B rec a W w o (after_test m.0 m.1) m.2 _ (value m.1 ∷ o.kont) n h' σ v entries (F.Value l d, fs, refl, (m.1, refl, m.4, m.5), o.stacked) (omega arith) (rw (eh, ← ea, b)) (omega arith)
