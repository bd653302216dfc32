-- The turns of a switch: case by case until one says yes, then the blocks from there on.
-- With no yes the first case without a test is taken, or none.
use Rattle.std.proofs.Common.{◌≡◌, ℕ, zero, suc, ◌+◌, ◌<◌, ◌≤◌, Bool, true, false, eqb, List, [], ◌∷◌, ◌++◌, length, Some, None, Option, sym, refl, ap, ◌∙◌, subst, le_refl, add-zero, add-one, unwrap_or, arith, Ok}
use Rattle.std.specs.Option.{option_or}
use Rattle.host.specs.Asked.{thrown}
use Rattle.hir.specs.declared.place.Place.{Place}
use Rattle.hir.specs.declared.range.Range.{Range}
use Rattle.hir.specs.declared.terminal.ReactiveSwitchCase.{ReactiveSwitchCase}
use Rattle.hir.specs.Decode.{Slots, opt_block_of}
use Rattle.hir.specs.Options.{nth}
use Rattle.hir.specs.Tree.{Cases, knil, kcons, OptBlock, no_block, some_block}
use Rattle.semantics.specs.Machine.{Meaning, State, Result, bind, map_out, branch, ask, on_reply, look}
use Rattle.semantics.specs.Targets.{Around, in_switch, aim_k, aim_o}
use Rattle.semantics.specs.Exec.{select, run_from, end_loop, within}
use Rattle.run.specs.declared.frame.Exit.{Exit}
use Rattle.run.specs.declared.frame.Exit.TheVariants as E
use Rattle.run.specs.declared.frame.Selection.{Selection}
use Rattle.run.specs.declared.frame.Frame.{Frame}
use Rattle.run.specs.declared.frame.Frame.TheVariants as F
use Rattle.run.specs.Frames.{AtMost, block_at, behind}
use Rattle.run.specs.Tasks.{block, ends_switch, selects, cases, first, around, resume, w_k}
use Rattle.run.specs.Turn.{Leads, Next, state_of, case_of}
use Rattle.run.proofs.Decoded.{drop_k, cases_in, cases_end, cases_first, cases_behind}
use Rattle.run.proofs.Rows.{bound, some_is}
use Rattle.run.proofs.Stack.{Opened}
use Rattle.run.proofs.Turning.{top, stay, goes, snoc_length}

drop_k_nil : (n : ℕ) → drop_k n knil ≡ knil
drop_k_nil zero = refl
drop_k_nil (suc n) = refl

drop_k_light : (n : ℕ) (cs : Cases) → w_k (drop_k n cs) ≤ w_k cs
drop_k_light zero cs = le_refl (w_k cs)
drop_k_light (suc n) knil = le_refl 1
drop_k_light (suc n) (kcons t b cs) = let i = drop_k_light n cs in omega arith

drop_k_aimed : (n : ℕ) (cs : Cases) (A : Around) → aim_k (drop_k n cs) A ≡ drop_k n (aim_k cs A)
drop_k_aimed zero cs A = refl
drop_k_aimed (suc n) knil A = refl
drop_k_aimed (suc n) (kcons t b cs) A = drop_k_aimed n cs A

first_next : (e : Option ℕ) (p : Place) (b : OptBlock) (cs : Cases) (n : ℕ) → first e cs (suc n) ≡ first e (kcons (Some p) b cs) n
first_next (Some z) p b cs n = refl
first_next None p b cs n = omega arith

module _ {S : Type 0} (H : Meaning S) (B : ℕ) (rec : ℕ → Option ℕ) where
  run_from_lem : (cs : Cases) (n : ℕ) (s : State S) → run_from H (within H B) rec (suc B) (drop_k n cs) zero s ≡ run_from H (within H B) rec (suc B) cs n s
  run_from_lem cs zero s = refl
  run_from_lem knil (suc n) s = refl
  run_from_lem (kcons t b cs) (suc n) s = run_from_lem cs n s

  module _ (a : Slots) (W : ℕ) (w : Result S) (fs : List Frame) {x : Exit}
      {h : S} {σ : List ℕ} {given steps entries : ℕ} {recorded : Bool} (n : x ≡ E.Normal) (m : Option ℕ) (d : ℕ) where
    -- ---- the blocks
    pub on_cases_end : (r : Range) → r.count ≡ 0
        → Leads H B rec a W w (fs ++ F.Cases r d ∷ []) x h σ given steps entries recorded
        → Next H B rec a W w fs (F.Cases r d) steps fs x h σ given steps entries recorded
    unfolding bind
    on_cases_end r z ld =
        let o = top H B rec a W w fs (F.Cases r d) n ld in
        let q = o.means in
        stay H B rec a W w o (cases knil) (q.1 ∙ ap cases (cases_end a d r q.0 q.2 z)) fs o.kont n h σ given entries o.stacked (omega arith) refl (omega arith)

    pub cases_row : (r : Range) → Leads H B rec a W w (fs ++ F.Cases r d ∷ []) x h σ given steps entries recorded → r.start + r.count ≤ length a.cases
    cases_row r ld = let q = (top H B rec a W w fs (F.Cases r d) n ld).means in cases_in a d r q.0 q.2

    pub on_cases_none : (r : Range) (y : ReactiveSwitchCase) → 0 < r.count → nth a.cases r.start ≡ Some y → y.block ≡ None
        → Leads H B rec a W w (fs ++ F.Cases r d ∷ []) x h σ given steps entries recorded
        → Next H B rec a W w fs (F.Cases r d) steps (fs ++ F.Cases (behind r 1) d ∷ []) x h σ given steps entries recorded
    unfolding bind
    on_cases_none r y c at e ld =
        let o = top H B rec a W w fs (F.Cases r d) n ld in
        let q = o.means in
        let room = q.3 in
        let p = cases_first a d r q.0 q.2 y c at in
        let none : opt_block_of (block_at d a) None ≡ Some p.0 = subst (λ (z : Option Range). opt_block_of (block_at d a) z ≡ Some p.0) e p.3 in
        stay H B rec a W w o (cases (kcons y.test no_block p.1)) (q.1 ∙ ap cases (p.2 ∙ ap (λ (b : OptBlock). kcons y.test b p.1) (sym (some_is none)))) _ (cases p.1 ∷ o.kont) n h σ given entries
        (F.Cases (behind r 1) d, fs, refl, (p.1, refl, p.4, omega arith), o.stacked) (omega arith) refl (omega arith)

    pub on_cases_block : (r : Range) (y : ReactiveSwitchCase) (b : Range) → 0 < r.count → nth a.cases r.start ≡ Some y → y.block ≡ Some b
        → Leads H B rec a W w (fs ++ F.Cases r d ∷ []) x h σ given steps entries recorded
        → Next H B rec a W w fs (F.Cases r d) steps ((fs ++ F.Cases (behind r 1) d ∷ []) ++ F.Block b d ∷ []) x h σ given steps entries recorded
    unfolding bind
    on_cases_block r y b c at e ld =
        let o = top H B rec a W w fs (F.Cases r d) n ld in
        let q = o.means in
        let room = q.3 in
        let p = cases_first a d r q.0 q.2 y c at in
        let some : opt_block_of (block_at d a) (Some b) ≡ Some p.0 = subst (λ (z : Option Range). opt_block_of (block_at d a) z ≡ Some p.0) e p.3 in
        let s = bound (block_at d a b) _ p.0 some in
        let len = snoc_length fs (F.Cases (behind r 1) d) in
        stay H B rec a W w o (cases (kcons y.test (some_block s.0) p.1)) (q.1 ∙ ap cases (p.2 ∙ ap (λ (b : OptBlock). kcons y.test b p.1) (sym (some_is s.2)))) _ (block s.0 ∷ cases p.1 ∷ o.kont) n h σ given entries
        (F.Block b d, fs ++ F.Cases (behind r 1) d ∷ [], refl, (s.0, refl, s.1, omega arith), (F.Cases (behind r 1) d, fs, refl, (p.1, refl, p.4, omega arith), o.stacked)) (omega arith) refl (omega arith)

    -- ---- the selection
    module _ (c : Selection) (ld : Leads H B rec a W w (fs ++ F.Selects c m d ∷ []) x h σ given steps entries recorded) where
      opening : Opened H B rec a W w fs (F.Selects c m d) E.Normal h σ given steps entries recorded
      opening = top H B rec a W w fs (F.Selects c m d) n ld

      pub select_rows : (c.rest.start + c.rest.count ≤ length a.cases) × (c.all.start + c.all.count ≤ length a.cases) × (c.next + c.rest.count ≡ c.all.count)
      select_rows = let q = opening.means in (cases_in a d c.rest q.0 q.3, cases_in a d c.all q.1 q.4, q.5)

      default_within : (z : ℕ) → c.default ≡ Some z → z ≤ c.all.count
      default_within z e = subst (λ (y : Option ℕ). AtMost y c.all.count) e opening.means.6

      abbrev A : Around
      A = in_switch (around opening.kont)

      chosen : State S → Result S
      chosen u = map_out (end_loop m) (run_from H (within H B) rec (suc B) (aim_k opening.means.1 (in_switch (around opening.kont))) u.given u)

      -- the blocks from place z on are taken, where the selection gives z
      taken : (cs : Cases) (z f : ℕ) (h' : S) → opening.means.0 ≡ cs → z ≤ c.all.count → first c.default (aim_k cs (in_switch (around opening.kont))) c.next ≡ f
          → bind (select H (within H B) c.value (aim_k cs (in_switch (around opening.kont))) c.next f (state_of h σ given steps entries recorded)) chosen
          ≡ chosen (state_of h' σ z steps entries recorded)
          → Next H B rec a W w fs (F.Selects c m d) steps ((fs ++ F.EndsSwitch m ∷ []) ++ F.Cases (behind c.all z) d ∷ []) x h' σ z steps entries recorded
      unfolding bind chosen
      taken cs z f h' ec le ef e =
          let o = opening in
          let q = o.means in
          let room = q.7 in
          let light = drop_k_light z q.1 in
          let len = snoc_length fs (F.EndsSwitch m) in
          let K = in_switch (around o.kont) in
          let st = state_of h' σ z steps entries recorded in
          let s = state_of h σ given steps entries recorded in
          stay H B rec a W w o (selects c.value cs c.next c.default q.1 m) (q.2 ∙ ap (λ (y : Cases). selects c.value y c.next c.default q.1 m) ec) _
          (cases (drop_k z q.1) ∷ ends_switch m ∷ o.kont) n h' σ z entries
          (F.Cases (behind c.all z) d, fs ++ F.EndsSwitch m ∷ [], refl, (drop_k z q.1, refl, cases_behind a d c.all q.1 q.4 z le, omega arith), (F.EndsSwitch m, fs, refl, refl, o.stacked))
          (omega arith)
          (ap (λ (r : Result S). resume H B rec o.kont (map_out (end_loop m) r))
          (ap (λ (k : Cases). run_from H (within H B) rec (suc B) k zero st) (drop_k_aimed z q.1 K) ∙ run_from_lem (aim_k q.1 K) z st)
          ∙ ap (resume H B rec o.kont) (sym e)
          ∙ ap (λ (y : ℕ). resume H B rec o.kont (bind (select H (within H B) c.value (aim_k cs K) c.next y s) chosen)) (sym ef))
          (omega arith)

      on_selects_default : (z : ℕ) → c.rest.count ≡ 0 → c.default ≡ Some z
          → Next H B rec a W w fs (F.Selects c m d) steps ((fs ++ F.EndsSwitch m ∷ []) ++ F.Cases (behind c.all z) d ∷ []) x h σ z steps entries recorded
      unfolding bind
      on_selects_default z e0 ed =
          let q = opening.means in
          taken knil z z h (cases_end a d c.rest q.0 q.3 e0) (subst (λ (y : Option ℕ). AtMost y c.all.count) ed q.6) (ap (λ (y : Option ℕ). first y knil c.next) ed) refl

      on_selects_none : c.rest.count ≡ 0 → c.default ≡ None
          → Next H B rec a W w fs (F.Selects c m d) steps ((fs ++ F.EndsSwitch m ∷ []) ++ F.Cases (behind c.all c.next) d ∷ []) x h σ c.next steps entries recorded
      unfolding bind
      on_selects_none e0 ed =
          let q = opening.means in
          let s = q.5 in
          taken knil c.next c.next h (cases_end a d c.rest q.0 q.3 e0) (omega arith) (ap (λ (y : Option ℕ). first y knil c.next) ed ∙ add-zero c.next) refl

      -- the first case without a test is taken, or none
      pub chosen_within : unwrap_or c.default c.next ≤ c.all.count
      chosen_within = go c.default refl
        where
          go : (o : Option ℕ) → c.default ≡ o → unwrap_or o c.next ≤ c.all.count
          go (Some z) e = default_within z e
          go None e = let s = opening.means.5 in omega arith

      pub on_selects_end : (z : ℕ) → c.rest.count ≡ 0 → z ≡ unwrap_or c.default c.next
          → Next H B rec a W w fs (F.Selects c m d) steps ((fs ++ F.EndsSwitch m ∷ []) ++ F.Cases (behind c.all z) d ∷ []) x h σ z steps entries recorded
      on_selects_end z e0 ez = go c.default refl
        where
          go : (o : Option ℕ) → c.default ≡ o
              → Next H B rec a W w fs (F.Selects c m d) steps ((fs ++ F.EndsSwitch m ∷ []) ++ F.Cases (behind c.all z) d ∷ []) x h σ z steps entries recorded
          go (Some y) e = let e' : z ≡ y = rw e at ez in rw e' (on_selects_default y e0 e)
          go None e = let e' : z ≡ c.next = rw e at ez in rw e' (on_selects_none e0 e)

      -- ---- a case to ask for
      module _ (y : ReactiveSwitchCase) (some : 0 < c.rest.count) (at : nth a.cases c.rest.start ≡ Some y) where
        -- the next one, with z as the first without a test
        goes_on : (t : Option Place) (z : Option ℕ) (f : OptBlock → Cases → ℕ) (h' : S) (given' : ℕ) → y.test ≡ t → AtMost z c.all.count
            → ((b : OptBlock) (cs : Cases) → first c.default (aim_k (kcons t b cs) A) c.next ≡ f b cs)
            → ((b : OptBlock) (cs : Cases) → first z (aim_k cs A) (suc c.next) ≡ f b cs)
            → ((b : OptBlock) (cs : Cases) → bind (select H (within H B) c.value (aim_k cs A) (suc c.next) (f b cs) (state_of h' σ given' steps entries recorded)) chosen
            ≡ bind (select H (within H B) c.value (aim_k (kcons t b cs) A) c.next (f b cs) (state_of h σ given steps entries recorded)) chosen)
            → Next H B rec a W w fs (F.Selects c m d) steps
            (fs ++ F.Selects (record { value = c.value; rest = behind c.rest 1; next = c.next + 1; default = z; all = c.all }) m d ∷ []) x h' σ given' steps entries recorded
        unfolding bind chosen
        goes_on t z f h' given' et am ef eg e =
            let o = opening in
            let q = o.means in
            let room = q.7 in
            let sum = q.5 in
            let p = cases_first a d c.rest q.0 q.3 y some at in
            let b = p.0 in
            let cs = p.1 in
            let ec : q.0 ≡ kcons t b cs = p.2 ∙ ap (λ (u : Option Place). kcons u b cs) et in
            let s' = state_of h' σ given' steps entries recorded in
            let s = state_of h σ given steps entries recorded in
            let v = c.value in
            let c' : Selection = record { value = c.value; rest = behind c.rest 1; next = c.next + 1; default = z; all = c.all } in
            stay H B rec a W w o (selects v (kcons t b cs) c.next c.default q.1 m) (q.2 ∙ ap (λ (u : Cases). selects v u c.next c.default q.1 m) ec) _
            (selects v cs (c.next + 1) z q.1 m ∷ o.kont) n h' σ given' entries
            (F.Selects c' m d, fs, refl, (cs, q.1, refl, p.4, q.4, omega arith, am, omega arith), o.stacked)
            (omega arith)
            (ap (λ (i : ℕ). resume H B rec o.kont (bind (select H (within H B) v (aim_k cs A) i (first z (aim_k cs A) i) s') chosen)) (add-one c.next)
            ∙ ap (λ (i : ℕ). resume H B rec o.kont (bind (select H (within H B) v (aim_k cs A) (suc c.next) i s') chosen)) (eg b cs)
            ∙ ap (resume H B rec o.kont) (e b cs)
            ∙ ap (λ (i : ℕ). resume H B rec o.kont (bind (select H (within H B) v (aim_k (kcons t b cs) A) c.next i s) chosen)) (sym (ef b cs)))
            (omega arith)

        on_untested_later : (z : ℕ) → y.test ≡ None → c.default ≡ Some z
            → Next H B rec a W w fs (F.Selects c m d) steps
            (fs ++ F.Selects (record { value = c.value; rest = behind c.rest 1; next = c.next + 1; default = Some z; all = c.all }) m d ∷ []) x h σ given steps entries recorded
        on_untested_later z et ed =
            goes_on None (Some z) (λ b cs. z) h given et (subst (λ (y : Option ℕ). AtMost y c.all.count) ed opening.means.6)
            (λ b cs. ap (λ (u : Option ℕ). first u (aim_k (kcons None b cs) A) c.next) ed) (λ b cs. refl) (λ b cs. refl)

        on_untested_first : y.test ≡ None → c.default ≡ None
            → Next H B rec a W w fs (F.Selects c m d) steps
            (fs ++ F.Selects (record { value = c.value; rest = behind c.rest 1; next = c.next + 1; default = Some c.next; all = c.all }) m d ∷ []) x h σ given steps entries recorded
        on_untested_first et ed =
            let sum = opening.means.5 in
            goes_on None (Some c.next) (λ b cs. c.next) h given et (omega arith)
            (λ b cs. ap (λ (u : Option ℕ). first u (aim_k (kcons None b cs) A) c.next) ed ∙ add-zero c.next) (λ b cs. refl) (λ b cs. refl)

        pub on_untested : y.test ≡ None
            → Next H B rec a W w fs (F.Selects c m d) steps
            (fs ++ F.Selects (record { value = c.value; rest = behind c.rest 1; next = c.next + 1; default = option_or c.default (Some c.next); all = c.all }) m d ∷ []) x h σ given steps entries recorded
        on_untested et = go c.default refl
          where
            go : (o : Option ℕ) → c.default ≡ o
                → Next H B rec a W w fs (F.Selects c m d) steps
                (fs ++ F.Selects (record { value = c.value; rest = behind c.rest 1; next = c.next + 1; default = option_or o (Some c.next); all = c.all }) m d ∷ []) x h σ given steps entries recorded
            go (Some z) e = on_untested_later z et e
            go None e = on_untested_first et e

        module _ (p : Place) (u v : ℕ) (et : y.test ≡ Some p) (eu : u ≡ look σ p.identifier) (h' : S) (eh : h' ≡ H.next h (case_of c.value u)) where
          pub on_case_no : Ok v ≡ H.answer h (case_of c.value u) → eqb v 0 ≡ true
              → Next H B rec a W w fs (F.Selects c m d) steps
              (fs ++ F.Selects (record { value = c.value; rest = behind c.rest 1; next = c.next + 1; default = c.default; all = c.all }) m d ∷ []) x h' σ v steps entries recorded
          unfolding ask on_reply branch
          on_case_no ea e0 =
              let eh' = rw eu at eh in
              let ea' = rw eu at ea in
              goes_on (Some p) c.default (λ b cs. first c.default (aim_k cs A) (suc c.next)) h' v et opening.means.6
              (λ b cs. sym (first_next c.default p (aim_o b A) (aim_k cs A) c.next)) (λ b cs. refl) (λ b cs. rw (eh', ← ea', e0))

          pub on_case_yes : Ok v ≡ H.answer h (case_of c.value u) → eqb v 0 ≡ false
              → Next H B rec a W w fs (F.Selects c m d) steps ((fs ++ F.EndsSwitch m ∷ []) ++ F.Cases (behind c.all c.next) d ∷ []) x h' σ c.next steps entries recorded
          unfolding bind ask on_reply branch
          on_case_yes ea e0 =
              let q = opening.means in
              let sum = q.5 in
              let eh' = rw eu at eh in
              let ea' = rw eu at ea in
              let r = cases_first a d c.rest q.0 q.3 y some at in
              taken (kcons (Some p) r.0 r.1) c.next _ h' (r.2 ∙ ap (λ (z : Option Place). kcons z r.0 r.1) et) (omega arith) refl (rw (eh', ← ea', e0))

          pub on_case_threw : thrown v ≡ H.answer h (case_of c.value u)
              → Next H B rec a W w fs (F.Selects c m d) steps fs (E.Threw v) h' σ given steps entries recorded
          unfolding bind ask on_reply
          on_case_threw ea =
              let o = opening in
              let q = o.means in
              let eh' = rw eu at eh in
              let ea' = rw eu at ea in
              let r = cases_first a d c.rest q.0 q.3 y some at in
              goes H B rec a W w o (selects c.value (kcons (Some p) r.0 r.1) c.next c.default q.1 m)
              (q.2 ∙ ap (λ (z : Cases). selects c.value z c.next c.default q.1 m) (r.2 ∙ ap (λ (z : Option Place). kcons z r.0 r.1) et))
              fs o.kont (E.Threw v) h' σ given entries o.stacked (omega arith) (rw (eh', ← ea')) (omega arith)
