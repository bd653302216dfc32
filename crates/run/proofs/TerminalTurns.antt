-- The turns of terminals, once their step is paid.
-- A label's end lies below the parts of its statement; a jump has nothing inside.
use Rattle.std.proofs.Common.{◌≡◌, ℕ, suc, Bool, true, false, cond, eqb, List, [], ◌∷◌, ◌++◌, length, Some, None, Option, sym, refl, ap, ◌∙◌, subst, zero-add, arith, Ok}
use Rattle.host.specs.Asked.{thrown}
use Rattle.hir.specs.declared.place.Place.{Place}
use Rattle.hir.specs.declared.range.Range.{Range}
use Rattle.hir.specs.declared.statement.ReactiveStatement.TheVariants as K
use Rattle.hir.specs.declared.terminal.ReactiveTerminal.{ReactiveTerminal}
use Rattle.hir.specs.declared.terminal.ReactiveTerminal.TheVariants as R
use Rattle.hir.specs.declared.terminal.ReactiveTerminalStatement.{ReactiveTerminalStatement}
use Rattle.hir.specs.declared.terminal.ReactiveTerminalTargetKind.{ReactiveTerminalTargetKind}
use Rattle.hir.specs.declared.terminal.ReactiveTerminalTargetKind.TheVariants.{Implicit, Labeled, Unlabeled}
use Rattle.hir.specs.Decode.{Slots}
use Rattle.hir.specs.Options.{nth}
use Rattle.hir.specs.Tree.{OptBlock, no_block, some_block, terminal, Term, break, continue, return, throw, switch, do_while, while, for, for_of, for_in, if, label, try}
use Rattle.semantics.specs.Machine.{Meaning, State, Result, normal, done, bind, map_out, branch, ask, on_reply, look}
use Rattle.semantics.specs.Targets.{Around, mark, labelled, in_switch, aim_k}
use Rattle.semantics.specs.Exec.{default, select, run_from, end_loop, end_label, within}
use Rattle.run.specs.declared.frame.Exit.{Exit}
use Rattle.run.specs.declared.frame.Exit.TheVariants as E
use Rattle.run.specs.declared.frame.Loop.TheVariants.{TestFirst, BlockFirst, Updating}
use Rattle.run.specs.declared.frame.Selection.{Selection}
use Rattle.run.specs.declared.frame.Target.{Target}
use Rattle.run.specs.declared.frame.Target.TheVariants as T
use Rattle.run.specs.declared.frame.Frame.{Frame}
use Rattle.run.specs.declared.frame.Frame.TheVariants as F
use Rattle.run.specs.Exits.{any, exit_to, jumped, label_of}
use Rattle.run.specs.Frames.{block_at}
use Rattle.run.specs.Tasks.{test_first, block_first, updating, block, begun, value, ends_label, starts, selects, catches, around, act, resume}
use Rattle.run.specs.Turn.{Leads, Next, result, state_of, test_of}
use Rattle.run.proofs.Around.{found, any_found}
use Rattle.run.proofs.Rows.{bound, none_some, some_is}
use Rattle.run.proofs.Stack.{Opened}
use Rattle.run.proofs.StatementParts.{terminal_parts, Stands, switch_parts, do_while_parts, while_parts, for_in_parts, for_of_parts, for_parts, if_parts, label_parts, try_parts}
use Rattle.run.proofs.Turning.{top, stay, goes, snoc_length}

module _ {S : Type 0} (H : Meaning S) (B : ℕ) (rec : ℕ → Option ℕ) (a : Slots) (W : ℕ) (w : Result S) (fs : List Frame) {x : Exit}
    {h : S} {σ : List ℕ} {given steps entries : ℕ} {recorded : Bool} (n : x ≡ E.Normal)
    (k d : ℕ) (t : ReactiveTerminalStatement) (at : nth a.statements k ≡ Some (K.Terminal t))
    (ld : Leads H B rec a W w (fs ++ F.Statement k d ∷ []) x h σ given steps entries recorded) where
  -- the terminal of the begun statement
  record Begun (r : ReactiveTerminal) : Type 0 where
    pub o : Opened H B rec a W w fs (F.Statement k d) E.Normal h σ given steps entries recorded
    pub u : Term
    pub is : o.task ≡ begun (terminal u t.label)
    pub stands : Stands a d u r

  begin : (r : ReactiveTerminal) → t.terminal ≡ r → Begun r
  begin r e =
      let o = top H B rec a W w fs (F.Statement k d) n ld in
      let m = o.means in
      let p = terminal_parts a d k m.0 m.2 t at in
      record { o = o; u = p.0; is = m.1 ∙ ap begun p.1; stands = subst (λ (q : ReactiveTerminal). Stands a d p.0 q) e p.2 }

  task_is : {r : ReactiveTerminal} (b : Begun r) (v : Term) → b.u ≡ v → b.o.task ≡ begun (terminal v t.label)
  task_is b v e = b.is ∙ ap (λ (z : Term). begun (terminal z t.label)) e

  -- a jump is taken where its target is around it
  jump : (r : ReactiveTerminal) (u : Term) (τ : Target) → t.terminal ≡ r → ((b : Begun r) → b.u ≡ u)
      → ((A : Around) (s : State S) → found τ A ≡ true → act H B rec A (begun (terminal u t.label)) (done normal s) ≡ result (exit_to τ) s)
      → ((A : Around) (s : State S) → found τ A ≡ false → act H B rec A (begun (terminal u t.label)) (done normal s) ≡ done normal s)
      → Next H B rec a W w fs (F.Statement k d) steps fs (jumped τ fs x) h σ given steps entries recorded
  jump r u τ e is taken passed = go (any τ fs) refl
    where
      b : Begun r
      b = begin r e

      there : (v : Bool) → any τ fs ≡ v → found τ (around b.o.kont) ≡ v
      there v f = sym (any_found a B W steps τ fs b.o.kont b.o.stacked) ∙ f

      go : (v : Bool) → any τ fs ≡ v → Next H B rec a W w fs (F.Statement k d) steps fs (cond v (exit_to τ) x) h σ given steps entries recorded
      go true f =
          goes H B rec a W w b.o (begun (terminal u t.label)) (task_is b u (is b)) fs b.o.kont (exit_to τ) h σ given entries b.o.stacked (omega arith)
          (ap (resume H B rec b.o.kont) (sym (taken (around b.o.kont) _ (there true f)))) (omega arith)
      go false f =
          stay H B rec a W w b.o (begun (terminal u t.label)) (task_is b u (is b)) fs b.o.kont n h σ given entries b.o.stacked (omega arith)
          (ap (resume H B rec b.o.kont) (sym (passed (around b.o.kont) _ (there false f)))) (omega arith)

  -- an implicit one goes on
  implicit : (r : ReactiveTerminal) (u : Term) → t.terminal ≡ r → ((b : Begun r) → b.u ≡ u)
      → ((A : Around) (s : State S) → act H B rec A (begun (terminal u t.label)) (done normal s) ≡ done normal s)
      → Next H B rec a W w fs (F.Statement k d) steps fs x h σ given steps entries recorded
  implicit r u e is passed =
      let b = begin r e in
      stay H B rec a W w b.o (begun (terminal u t.label)) (task_is b u (is b)) fs b.o.kont n h σ given entries b.o.stacked (omega arith)
      (ap (resume H B rec b.o.kont) (sym (passed (around b.o.kont) _))) (omega arith)

  pub on_break_by : (l i : ℕ) (q : ReactiveTerminalTargetKind) (o : Option ℕ) → t.terminal ≡ R.Break l i q → label_of l q ≡ Some o
      → Next H B rec a W w fs (F.Statement k d) steps fs (jumped (T.Break o) fs x) h σ given steps entries recorded
  unfolding bind map_out
  on_break_by l i Implicit o e at = none_some o at
  on_break_by l i Labeled o e at =
      rw (← some_is at) (jump (R.Break l i Labeled) (break l i Labeled) (T.Break (Some l)) e (λ b. sym (some_is b.stands)) (λ A s f. rw f) (λ A s f. rw f))
  on_break_by l i Unlabeled o e at =
      rw (← some_is at) (jump (R.Break l i Unlabeled) (break l i Unlabeled) (T.Break None) e (λ b. sym (some_is b.stands)) (λ A s f. rw f) (λ A s f. rw f))

  pub on_break_implicit : (l i : ℕ) (q : ReactiveTerminalTargetKind) → t.terminal ≡ R.Break l i q → ((o : Option ℕ) → label_of l q ≡ Some o → ⊥)
      → Next H B rec a W w fs (F.Statement k d) steps fs x h σ given steps entries recorded
  unfolding bind map_out
  on_break_implicit l i Implicit e free = implicit (R.Break l i Implicit) (break l i Implicit) e (λ b. sym (some_is b.stands)) (λ A s. refl)
  on_break_implicit l i Labeled e free = absurd (free _ refl)
  on_break_implicit l i Unlabeled e free = absurd (free _ refl)

  pub on_continue_by : (l i : ℕ) (q : ReactiveTerminalTargetKind) (o : Option ℕ) → t.terminal ≡ R.Continue l i q → label_of l q ≡ Some o
      → Next H B rec a W w fs (F.Statement k d) steps fs (jumped (T.Continue o) fs x) h σ given steps entries recorded
  unfolding bind map_out
  on_continue_by l i Implicit o e at = none_some o at
  on_continue_by l i Labeled o e at =
      rw (← some_is at) (jump (R.Continue l i Labeled) (continue l i Labeled) (T.Continue (Some l)) e (λ b. sym (some_is b.stands)) (λ A s f. rw f) (λ A s f. rw f))
  on_continue_by l i Unlabeled o e at =
      rw (← some_is at) (jump (R.Continue l i Unlabeled) (continue l i Unlabeled) (T.Continue None) e (λ b. sym (some_is b.stands)) (λ A s f. rw f) (λ A s f. rw f))

  pub on_continue_implicit : (l i : ℕ) (q : ReactiveTerminalTargetKind) → t.terminal ≡ R.Continue l i q → ((o : Option ℕ) → label_of l q ≡ Some o → ⊥)
      → Next H B rec a W w fs (F.Statement k d) steps fs x h σ given steps entries recorded
  unfolding bind map_out
  on_continue_implicit l i Implicit e free = implicit (R.Continue l i Implicit) (continue l i Implicit) e (λ b. sym (some_is b.stands)) (λ A s. refl)
  on_continue_implicit l i Labeled e free = absurd (free _ refl)
  on_continue_implicit l i Unlabeled e free = absurd (free _ refl)

  pub on_return : (p : Place) (i v : ℕ) → t.terminal ≡ R.Return p i → v ≡ look σ p.identifier
      → Next H B rec a W w fs (F.Statement k d) steps fs (E.Returned v) h σ given steps entries recorded
  unfolding bind map_out
  on_return p i v e ev =
      let b = begin (R.Return p i) e in
      let o = b.o in
      goes H B rec a W w o (begun (terminal (return p i) t.label)) (task_is b _ (sym (some_is b.stands))) fs o.kont (E.Returned v) h σ given entries o.stacked (omega arith) (rw ev) (omega arith)

  pub on_throw : (p : Place) (i v : ℕ) → t.terminal ≡ R.Throw p i → v ≡ look σ p.identifier
      → Next H B rec a W w fs (F.Statement k d) steps fs (E.Threw v) h σ given steps entries recorded
  unfolding bind map_out
  on_throw p i v e ev =
      let b = begin (R.Throw p i) e in
      let o = b.o in
      goes H B rec a W w o (begun (terminal (throw p i) t.label)) (task_is b _ (sym (some_is b.stands))) fs o.kont (E.Threw v) h σ given entries o.stacked (omega arith) (rw ev) (omega arith)

  module _ (m : Option ℕ) (em : m ≡ mark t.label) where
    len : length (fs ++ F.EndsLabel m ∷ []) ≡ suc (length fs)
    len = snoc_length fs (F.EndsLabel m)

    pub on_while : (v : ℕ) (b : Range) (i : ℕ) → t.terminal ≡ R.While v b i
        → Next H B rec a W w fs (F.Statement k d) steps ((fs ++ F.EndsLabel m ∷ []) ++ F.Starts (TestFirst v b) m d ∷ []) x h σ given steps entries recorded
    unfolding bind
    on_while v b i e =
        let g = begin (R.While v b i) e in
        let o = g.o in
        let room = o.means.3 in
        let p = while_parts a d g.u v b i g.stands in
        let l = test_first p.0 p.1 in
        let f = F.Starts (TestFirst v b) m d in
        let one = len in
        stay H B rec a W w o (begun (terminal (while p.0 p.1 i) t.label)) (task_is g _ p.2) _ (starts l m ∷ ends_label m ∷ o.kont) n h σ given entries
        (f, fs ++ F.EndsLabel m ∷ [], refl, (l, refl, p.3, omega arith), (F.EndsLabel m, fs, refl, refl, o.stacked))
        (omega arith)
        (rw em)
        (omega arith)

    pub on_for_in : (v : ℕ) (b : Range) (i z : ℕ) → t.terminal ≡ R.ForIn v b i z
        → Next H B rec a W w fs (F.Statement k d) steps ((fs ++ F.EndsLabel m ∷ []) ++ F.Starts (TestFirst v b) m d ∷ []) x h σ given steps entries recorded
    unfolding bind
    on_for_in v b i z e =
        let g = begin (R.ForIn v b i z) e in
        let o = g.o in
        let room = o.means.3 in
        let p = for_in_parts a d g.u v b i z g.stands in
        let l = test_first p.0 p.1 in
        let f = F.Starts (TestFirst v b) m d in
        let one = len in
        stay H B rec a W w o (begun (terminal (for_in p.0 p.1 i z) t.label)) (task_is g _ p.2) _ (starts l m ∷ ends_label m ∷ o.kont) n h σ given entries
        (f, fs ++ F.EndsLabel m ∷ [], refl, (l, refl, p.3, omega arith), (F.EndsLabel m, fs, refl, refl, o.stacked))
        (omega arith)
        (rw em)
        (omega arith)

    pub on_do_while : (b : Range) (v i : ℕ) → t.terminal ≡ R.DoWhile b v i
        → Next H B rec a W w fs (F.Statement k d) steps ((fs ++ F.EndsLabel m ∷ []) ++ F.Starts (BlockFirst b v) m d ∷ []) x h σ given steps entries recorded
    unfolding bind
    on_do_while b v i e =
        let g = begin (R.DoWhile b v i) e in
        let o = g.o in
        let room = o.means.3 in
        let p = do_while_parts a d g.u b v i g.stands in
        let l = block_first p.0 p.1 in
        let f = F.Starts (BlockFirst b v) m d in
        let one = len in
        stay H B rec a W w o (begun (terminal (do_while p.0 p.1 i) t.label)) (task_is g _ p.2) _ (starts l m ∷ ends_label m ∷ o.kont) n h σ given entries
        (f, fs ++ F.EndsLabel m ∷ [], refl, (l, refl, p.3, omega arith), (F.EndsLabel m, fs, refl, refl, o.stacked))
        (omega arith)
        (rw em)
        (omega arith)

    pub on_for_of : (c v : ℕ) (b : Range) (i z : ℕ) → t.terminal ≡ R.ForOf c v b i z
        → Next H B rec a W w fs (F.Statement k d) steps (((fs ++ F.EndsLabel m ∷ []) ++ F.Starts (TestFirst v b) m d ∷ []) ++ F.Value c 64 ∷ []) x h σ given steps entries recorded
    unfolding bind
    on_for_of c v b i z e =
        let g = begin (R.ForOf c v b i z) e in
        let o = g.o in
        let room = o.means.3 in
        let p = for_of_parts a d g.u c v b i z g.stands in
        let l = test_first p.1 p.2 in
        let f = F.Starts (TestFirst v b) m d in
        let one = len in
        let two = snoc_length (fs ++ F.EndsLabel m ∷ []) f in
        stay H B rec a W w o (begun (terminal (for_of p.0 p.1 p.2 i z) t.label)) (task_is g _ p.3) _ (value p.0 ∷ starts l m ∷ ends_label m ∷ o.kont) n h σ given entries
        (F.Value c 64, (fs ++ F.EndsLabel m ∷ []) ++ f ∷ [], refl, (p.0, refl, p.4, omega arith), (f, fs ++ F.EndsLabel m ∷ [], refl, (l, refl, p.5, omega arith), (F.EndsLabel m, fs, refl, refl, o.stacked)))
        (omega arith)
        (rw em)
        (omega arith)

    pub on_for : (c v : ℕ) (u : Option ℕ) (b : Range) (i : ℕ) → t.terminal ≡ R.For c v u b i
        → Next H B rec a W w fs (F.Statement k d) steps (((fs ++ F.EndsLabel m ∷ []) ++ F.Starts (Updating v u b) m d ∷ []) ++ F.Value c 64 ∷ []) x h σ given steps entries recorded
    unfolding bind
    on_for c v u b i e =
        let g = begin (R.For c v u b i) e in
        let o = g.o in
        let room = o.means.3 in
        let p = for_parts a d g.u c v u b i g.stands in
        let l = updating p.1 p.2 p.3 in
        let f = F.Starts (Updating v u b) m d in
        let one = len in
        let two = snoc_length (fs ++ F.EndsLabel m ∷ []) f in
        stay H B rec a W w o (begun (terminal (for p.0 p.1 p.2 p.3 i) t.label)) (task_is g _ p.4) _ (value p.0 ∷ starts l m ∷ ends_label m ∷ o.kont) n h σ given entries
        (F.Value c 64, (fs ++ F.EndsLabel m ∷ []) ++ f ∷ [], refl, (p.0, refl, p.5, omega arith), (f, fs ++ F.EndsLabel m ∷ [], refl, (l, refl, p.6, omega arith), (F.EndsLabel m, fs, refl, refl, o.stacked)))
        (omega arith)
        (rw em)
        (omega arith)

    pub on_label : (b : Range) (i : ℕ) → t.terminal ≡ R.Label b i
        → Next H B rec a W w fs (F.Statement k d) steps ((fs ++ F.EndsLabel m ∷ []) ++ F.Block b d ∷ []) x h σ given steps entries recorded
    unfolding bind
    on_label b i e =
        let g = begin (R.Label b i) e in
        let o = g.o in
        let room = o.means.3 in
        let p = label_parts a d g.u b i g.stands in
        let one = len in
        stay H B rec a W w o (begun (terminal (label p.0 i) t.label)) (task_is g _ p.1) _ (block p.0 ∷ ends_label m ∷ o.kont) n h σ given entries
        (F.Block b d, fs ++ F.EndsLabel m ∷ [], refl, (p.0, refl, p.2, omega arith), (F.EndsLabel m, fs, refl, refl, o.stacked))
        (omega arith)
        (rw em)
        (omega arith)

    pub on_try : (b : Range) (q : Option Place) (c : Range) (i : ℕ) → t.terminal ≡ R.Try b q c i
        → Next H B rec a W w fs (F.Statement k d) steps (((fs ++ F.EndsLabel m ∷ []) ++ F.Catches q c d ∷ []) ++ F.Block b d ∷ []) x h σ given steps entries recorded
    unfolding bind
    on_try b q c i e =
        let g = begin (R.Try b q c i) e in
        let o = g.o in
        let room = o.means.3 in
        let p = try_parts a d g.u b q c i g.stands in
        let one = len in
        let two = snoc_length (fs ++ F.EndsLabel m ∷ []) (F.Catches q c d) in
        stay H B rec a W w o (begun (terminal (try p.0 q p.1 i) t.label)) (task_is g _ p.2) _ (block p.0 ∷ catches q p.1 ∷ ends_label m ∷ o.kont) n h σ given entries (
          F.Block b d,
          (fs ++ F.EndsLabel m ∷ []) ++ F.Catches q c d ∷ [],
          refl,
          (p.0, refl, p.3, omega arith),
          (F.Catches q c d, fs ++ F.EndsLabel m ∷ [], refl, (p.1, refl, p.4, omega arith), (F.EndsLabel m, fs, refl, refl, o.stacked)),
        )
        (omega arith)
        (rw em)
        (omega arith)

    pub on_switch : (q : Place) (r : Range) (i v : ℕ) → t.terminal ≡ R.Switch q r i → v ≡ look σ q.identifier
        → Next H B rec a W w fs (F.Statement k d) steps
        ((fs ++ F.EndsLabel m ∷ []) ++ F.Selects (record { value = v; rest = r; next = 0; default = None; all = r }) m d ∷ []) x h σ given steps entries recorded
    unfolding bind
    on_switch q r i v e ev =
        let g = begin (R.Switch q r i) e in
        let o = g.o in
        let room = o.means.3 in
        let p = switch_parts a d g.u q r i g.stands in
        let st = state_of h σ given steps entries recorded in
        let all = aim_k p.0 (in_switch (labelled (mark t.label) (around o.kont))) in
        let c : Selection = record { value = v; rest = r; next = 0; default = None; all = r } in
        let one = len in
        stay H B rec a W w o (begun (terminal (switch q p.0 i) t.label)) (task_is g _ p.1) _ (selects v p.0 0 None p.0 m ∷ ends_label m ∷ o.kont) n h σ given entries
        (F.Selects c m d, fs ++ F.EndsLabel m ∷ [], refl, (p.0, p.0, refl, p.2, p.2, zero-add r.count, tt, omega arith), (F.EndsLabel m, fs, refl, refl, o.stacked))
        (omega arith)
        (rw (em, ev) (ap (λ (z : ℕ). resume H B rec o.kont (map_out (end_label (mark t.label)) (bind (select H (within H B) (look σ q.identifier) all 0 z st) (λ u. map_out (end_loop (mark t.label)) (run_from H (within H B) rec (suc B) all u.given u))))) (zero-add (default all))))
        (omega arith)

  -- ---- a branch: the place's value is given, then tested
  module _ (q : Place) (b : Range) (i g v : ℕ) (eg : g ≡ look σ q.identifier) (h' : S) (eh : h' ≡ H.next h (test_of 0 g)) where
    pub on_if_threw : (c : Option Range) → t.terminal ≡ R.If q b c i → thrown v ≡ H.answer h (test_of 0 g)
        → Next H B rec a W w fs (F.Statement k d) steps fs (E.Threw v) h' σ g steps entries recorded
    unfolding bind map_out ask on_reply
    on_if_threw c e ea =
        let eh' = rw eg at eh in
        let ea' = rw eg at ea in
        let s = begin (R.If q b c i) e in
        let o = s.o in
        let p = if_parts a d s.u q b c i s.stands in
        goes H B rec a W w o (begun (terminal (if q p.0 p.1 i) t.label)) (task_is s _ p.2) fs o.kont (E.Threw v) h' σ g entries o.stacked (omega arith)
        (rw (eg, eh', ← ea')) (omega arith)

    pub on_if_yes : (m : Option ℕ) → m ≡ mark t.label → (c : Option Range) → t.terminal ≡ R.If q b c i → Ok v ≡ H.answer h (test_of 0 g) → eqb v 0 ≡ false
        → Next H B rec a W w fs (F.Statement k d) steps ((fs ++ F.EndsLabel m ∷ []) ++ F.Block b d ∷ []) x h' σ v steps entries recorded
    unfolding bind ask on_reply branch
    on_if_yes m em c e ea e0 =
        let s = begin (R.If q b c i) e in
        let o = s.o in
        let room = o.means.3 in
        let p = if_parts a d s.u q b c i s.stands in
        let one = snoc_length fs (F.EndsLabel m) in
        let eh' = rw eg at eh in
        let ea' = rw eg at ea in
        stay H B rec a W w o (begun (terminal (if q p.0 p.1 i) t.label)) (task_is s _ p.2) _ (block p.0 ∷ ends_label m ∷ o.kont) n h' σ v entries
        (F.Block b d, fs ++ F.EndsLabel m ∷ [], refl, (p.0, refl, p.3, omega arith), (F.EndsLabel m, fs, refl, refl, o.stacked))
        (omega arith)
        (rw (em, eh', ← ea', e0))
        (omega arith)

    pub on_if_no : (m : Option ℕ) → m ≡ mark t.label → (c : Range) → t.terminal ≡ R.If q b (Some c) i → Ok v ≡ H.answer h (test_of 0 g) → eqb v 0 ≡ true
        → Next H B rec a W w fs (F.Statement k d) steps ((fs ++ F.EndsLabel m ∷ []) ++ F.Block c d ∷ []) x h' σ v steps entries recorded
    unfolding bind ask on_reply branch
    on_if_no m em c e ea e0 =
        let s = begin (R.If q b (Some c) i) e in
        let o = s.o in
        let room = o.means.3 in
        let p = if_parts a d s.u q b (Some c) i s.stands in
        let y = bound (block_at d a c) _ p.1 p.4 in
        let one = snoc_length fs (F.EndsLabel m) in
        let eh' = rw eg at eh in
        let ea' = rw eg at ea in
        stay H B rec a W w o (begun (terminal (if q p.0 (some_block y.0) i) t.label)) (task_is s _ (p.2 ∙ ap (λ (z : OptBlock). if q p.0 z i) (sym (some_is y.2)))) _ (block y.0 ∷ ends_label m ∷ o.kont) n h' σ v entries
        (F.Block c d, fs ++ F.EndsLabel m ∷ [], refl, (y.0, refl, y.1, omega arith), (F.EndsLabel m, fs, refl, refl, o.stacked))
        (omega arith)
        (rw (em, eh', ← ea', e0))
        (omega arith)

    pub on_if_none : (m : Option ℕ) → m ≡ mark t.label → t.terminal ≡ R.If q b None i → Ok v ≡ H.answer h (test_of 0 g) → eqb v 0 ≡ true
        → Next H B rec a W w fs (F.Statement k d) steps (fs ++ F.EndsLabel m ∷ []) x h' σ v steps entries recorded
    unfolding bind ask on_reply branch
    on_if_none m em e ea e0 =
        let s = begin (R.If q b None i) e in
        let o = s.o in
        let room = o.means.3 in
        let p = if_parts a d s.u q b None i s.stands in
        let one = snoc_length fs (F.EndsLabel m) in
        let eh' = rw eg at eh in
        let ea' = rw eg at ea in
        stay H B rec a W w o (begun (terminal (if q p.0 no_block i) t.label)) (task_is s _ (p.2 ∙ ap (λ (z : OptBlock). if q p.0 z i) (sym (some_is p.4)))) _ (ends_label m ∷ o.kont) n h' σ v entries
        (F.EndsLabel m, fs, refl, refl, o.stacked)
        (omega arith)
        (rw (em, eh', ← ea', e0))
        (omega arith)
