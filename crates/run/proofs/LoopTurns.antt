-- The turns of a loop: its start, the beginning of a round, what its test leads to.
-- A round costs a step; the rounds left stay above the steps left, so a loop is never short of rounds.
use Rattle.std.proofs.Common.{◌≡◌, ℕ, zero, suc, ◌+◌, ◌-◌, ◌<◌, ◌≤◌, Bool, true, false, eqb, ltb, List, [], ◌∷◌, ◌++◌, Some, None, Option, sym, refl, ap, ◌∙◌, append-nil, arith, Ok}
use Rattle.host.specs.Asked.{thrown}
use Rattle.std.proofs.lemmas.Bool.{lt-ltb, le-ltb}
use Rattle.hir.specs.declared.range.Range.{Range}
use Rattle.hir.specs.Decode.{Slots, top_value, opt_value_of}
use Rattle.hir.specs.Tree.{Val, OptVal, no_val, some_val, Block}
use Rattle.semantics.specs.Machine.{Meaning, State, normal, broke, continued, returned, threw, Result, done, spent, stepped, bind, map_out, test, branch, ask, on_reply, tick, iter}
use Rattle.semantics.specs.Targets.{Around, aim_b}
use Rattle.semantics.specs.Exec.{within, end_round}
use Rattle.run.specs.declared.frame.Exit.{Exit}
use Rattle.run.specs.declared.frame.Exit.TheVariants as E
use Rattle.run.specs.declared.frame.Loop.{Loop as Repeated}
use Rattle.run.specs.declared.frame.Loop.TheVariants.{TestFirst, BlockFirst, Updating}
use Rattle.run.specs.declared.frame.Frame.{Frame}
use Rattle.run.specs.declared.frame.Frame.TheVariants as F
use Rattle.run.specs.Holds.{updates}
use Rattle.run.specs.Frames.{test_of_loop, value_at, block_at, loop_at}
use Rattle.run.specs.Tasks.{Loop, test_first, block_first, updating, block, value, ends_loop, ends_round, starts, rounds, tests, around, resume, runs, values, after_yes, round_of, w_loop, w_tests, weights}
use Rattle.run.specs.Turn.{Leads, Next, state_of, test_of}
use Rattle.run.proofs.Rows.{bound, some_is}
use Rattle.run.proofs.Stack.{later}
use Rattle.run.proofs.StatementParts.{top_at}
use Rattle.run.proofs.Turning.{top, stay, goes, paying, snoc_length}

-- ---- the parts of a loop
module _ (a : Slots) (d : ℕ) (l : Loop) where
  test_first_parts : (v : ℕ) (b : Range) → loop_at d a (TestFirst v b) ≡ Some l
      → (x : Val) × (y : Block) × (l ≡ test_first x y) × (value_at 64 a.inner v ≡ Some x) × (block_at d a b ≡ Some y)
  unfolding loop_at
  test_first_parts v b e =
      let p = bound (top_value a.inner v) _ l e in
      let q = bound (block_at d a b) _ l p.2 in
      (p.0, q.0, sym (some_is q.2), top_at a v p.0 p.1, q.1)

  block_first_parts : (b : Range) (v : ℕ) → loop_at d a (BlockFirst b v) ≡ Some l
      → (x : Val) × (y : Block) × (l ≡ block_first y x) × (value_at 64 a.inner v ≡ Some x) × (block_at d a b ≡ Some y)
  unfolding loop_at
  block_first_parts b v e =
      let p = bound (block_at d a b) _ l e in
      let q = bound (top_value a.inner v) _ l p.2 in
      (q.0, p.0, sym (some_is q.2), top_at a v q.0 q.1, p.1)

  updating_parts : (v : ℕ) (u : Option ℕ) (b : Range) → loop_at d a (Updating v u b) ≡ Some l
      → (x : Val) × (z : OptVal) × (y : Block) × (l ≡ updating x z y) × (value_at 64 a.inner v ≡ Some x) × (opt_value_of (top_value a.inner) u ≡ Some z) × (block_at d a b ≡ Some y)
  unfolding loop_at
  updating_parts v u b e =
      let p = bound (top_value a.inner v) _ l e in
      let s = bound (opt_value_of (top_value a.inner) u) _ l p.2 in
      let q = bound (block_at d a b) _ l s.2 in
      (p.0, s.0, q.0, sym (some_is q.2), top_at a v p.0 p.1, s.1, q.1)

positive : (y : Loop) (n : ℕ) → n < w_tests y + n
positive (test_first z c) n = omega arith
positive (block_first c z) n = omega arith
positive (updating z u c) n = omega arith

bind_done : {S : Type 0} (r : Result S) → bind r (λ y. done normal y) ≡ r
unfolding bind
bind_done (done normal s) = refl
bind_done (done (broke l) s) = refl
bind_done (done (continued l) s) = refl
bind_done (done (returned v) s) = refl
bind_done (done (threw v) s) = refl
bind_done (spent s) = refl

bind_assoc : {S : Type 0} (r : Result S) (f g : State S → Result S) → bind (bind r f) g ≡ bind r (λ u. bind (f u) g)
unfolding bind
bind_assoc (done normal s) f g = refl
bind_assoc (done (broke l) s) f g = refl
bind_assoc (done (continued l) s) f g = refl
bind_assoc (done (returned v) s) f g = refl
bind_assoc (done (threw v) s) f g = refl
bind_assoc (spent s) f g = refl

module _ {S : Type 0} (H : Meaning S) (B : ℕ) (rec : ℕ → Option ℕ) (a : Slots) (W : ℕ) (w : Result S) where
  iter_spent : (round : State S → Result S) (f : ℕ) (s : State S) → ltb s.steps B ≡ false → iter H (within H B) round f s ≡ spent s
  unfolding iter tick branch
  iter_spent round zero s t = refl
  iter_spent round (suc f) s t = rw t

  iter_step : (round : State S → Result S) (f g : ℕ) (s : State S) → f ≡ suc g → ltb s.steps B ≡ true → iter H (within H B) round f s ≡ bind (round (stepped s)) (λ u. iter H (within H B) round g u)
  unfolding iter tick branch
  iter_step round f g s e t = rw (e, t)

  -- the round of a loop whose block comes first, one part after the other
  parted : (c : Block) (v : Val) (m : Option ℕ) (A : Around) (s : State S)
      → bind (bind (map_out (end_round m) (runs H B rec (aim_b c A) s)) (λ u. values H B rec v u)) (λ t. test H 0 (after_yes H B rec (block_first c v) m A) (λ u. done (broke None) u) t)
      ≡ round_of H B rec (block_first c v) m A s
  parted c v m A s = bind_assoc (map_out (end_round m) (runs H B rec (aim_b c A) s)) (λ u. values H B rec v u) (λ t. test H 0 (λ u. done normal u) (λ u. done (broke None) u) t)

  module _ (fs : List Frame) {x : Exit} {h : S} {σ : List ℕ} {given steps entries : ℕ} {recorded : Bool} (n : x ≡ E.Normal) where
    pub on_starts : (l : Repeated) (m : Option ℕ) (d : ℕ)
        → Leads H B rec a W w (fs ++ F.Starts l m d ∷ []) x h σ given steps entries recorded
        → Next H B rec a W w fs (F.Starts l m d) steps ((fs ++ F.EndsLoop m ∷ []) ++ F.Rounds l m d ∷ []) x h σ given steps entries recorded
    unfolding bind
    on_starts l m d ld =
        let o = top H B rec a W w fs (F.Starts l m d) n ld in
        let q = o.means in
        let room = q.3 in
        let light = rw q.1 at o.light in
        let len = snoc_length fs (F.EndsLoop m) in
        stay H B rec a W w o (starts q.0 m) q.1 _ (rounds q.0 m (suc B) ∷ ends_loop m ∷ o.kont) n h σ given entries
        (F.Rounds l m d, fs ++ F.EndsLoop m ∷ [], refl, (q.0, suc B, refl, q.2, omega arith, omega arith, omega arith), (F.EndsLoop m, fs, refl, refl, o.stacked))
        (omega arith)
        refl
        (omega arith)

    -- ---- a round
    pub on_rounds_spent : (l : Repeated) (m : Option ℕ) (d : ℕ) → B ≤ steps
        → Leads H B rec a W w (fs ++ F.Rounds l m d ∷ []) x h σ given steps entries recorded
        → Next H B rec a W w fs (F.Rounds l m d) steps fs E.Spent h σ given steps entries recorded
    unfolding bind
    on_rounds_spent l m d b ld =
        let o = top H B rec a W w fs (F.Rounds l m d) n ld in
        let q = o.means in
        goes H B rec a W w o (rounds q.0 m q.1) q.2 fs o.kont E.Spent h σ given entries o.stacked (omega arith)
        (ap (resume H B rec o.kont) (sym (iter_spent (round_of H B rec q.0 m (around o.kont)) q.1 (state_of h σ given steps entries recorded) (le-ltb steps B b))))
        (omega arith)

    module _ (m : Option ℕ) (d : ℕ) (b : steps < B) where
      pub on_rounds_test_first : (v : ℕ) (r : Range)
          → Leads H B rec a W w (fs ++ F.Rounds (TestFirst v r) m d ∷ []) x h σ given steps entries recorded
          → Next H B rec a W w fs (F.Rounds (TestFirst v r) m d) steps (((fs ++ F.Rounds (TestFirst v r) m d ∷ []) ++ F.Tests (TestFirst v r) m d ∷ []) ++ F.Value v 64 ∷ []) x h σ given (steps + 1) entries recorded
      unfolding bind
      on_rounds_test_first v r ld =
          let l = TestFirst v r in
          let o = top H B rec a W w fs (F.Rounds l m d) n ld in
          let q = o.means in
          let p = test_first_parts a d q.0 v r q.3 in
          let room = q.4 in
          let fuel = q.5 in
          let wide : w_loop (test_first p.0 p.1) + suc (weights o.kont) ≤ W = rw p.2 at q.6 in
          let g = fs ++ F.Rounds l m d ∷ [] in
          let len = snoc_length fs (F.Rounds l m d) in
          let len' = snoc_length g (F.Tests l m d) in
          let f' = q.1 - 1 in
          let ef : q.1 ≡ suc f' = omega arith in
          let e = iter_step (round_of H B rec (test_first p.0 p.1) m (around o.kont)) q.1 f' (state_of h σ given steps entries recorded) ef (lt-ltb steps B b) in
          let dec : loop_at d a l ≡ Some (test_first p.0 p.1) = q.3 ∙ ap (λ (z : Loop). Some z) p.2 in
          paying H B rec a W w o (rounds (test_first p.0 p.1) m q.1) (q.2 ∙ ap (λ (z : Loop). rounds z m q.1) p.2) _
          (value p.0 ∷ tests (test_first p.0 p.1) m ∷ rounds (test_first p.0 p.1) m f' ∷ o.kont) n h σ given entries (
            F.Value v 64,
            g ++ F.Tests l m d ∷ [],
            refl,
            (p.0, refl, p.3, omega arith),
            (
              F.Tests l m d,
              g,
              refl,
              (test_first p.0 p.1, refl, dec, omega arith),
              (F.Rounds l m d, fs, refl, (test_first p.0 p.1, f', refl, dec, omega arith, omega arith, wide), later a B W steps (suc steps) fs o.kont (omega arith) o.stacked),
            ),
          )
          (omega arith)
          b
          (ap (resume H B rec o.kont) (sym e))
          (omega arith)

      pub on_rounds_updating : (v : ℕ) (u : Option ℕ) (r : Range)
          → Leads H B rec a W w (fs ++ F.Rounds (Updating v u r) m d ∷ []) x h σ given steps entries recorded
          → Next H B rec a W w fs (F.Rounds (Updating v u r) m d) steps (((fs ++ F.Rounds (Updating v u r) m d ∷ []) ++ F.Tests (Updating v u r) m d ∷ []) ++ F.Value v 64 ∷ []) x h σ given (steps + 1) entries recorded
      unfolding bind
      on_rounds_updating v u r ld =
          let l = Updating v u r in
          let o = top H B rec a W w fs (F.Rounds l m d) n ld in
          let q = o.means in
          let p = updating_parts a d q.0 v u r q.3 in
          let room = q.4 in
          let fuel = q.5 in
          let y = updating p.0 p.1 p.2 in
          let wide : w_loop y + suc (weights o.kont) ≤ W = rw p.3 at q.6 in
          let g = fs ++ F.Rounds l m d ∷ [] in
          let len = snoc_length fs (F.Rounds l m d) in
          let len' = snoc_length g (F.Tests l m d) in
          let f' = q.1 - 1 in
          let ef : q.1 ≡ suc f' = omega arith in
          let e = iter_step (round_of H B rec y m (around o.kont)) q.1 f' (state_of h σ given steps entries recorded) ef (lt-ltb steps B b) in
          let dec : loop_at d a l ≡ Some y = q.3 ∙ ap (λ (z : Loop). Some z) p.3 in
          paying H B rec a W w o (rounds y m q.1) (q.2 ∙ ap (λ (z : Loop). rounds z m q.1) p.3) _
          (value p.0 ∷ tests y m ∷ rounds y m f' ∷ o.kont) n h σ given entries (
            F.Value v 64,
            g ++ F.Tests l m d ∷ [],
            refl,
            (p.0, refl, p.4, omega arith),
            (
              F.Tests l m d,
              g,
              refl,
              (y, refl, dec, omega arith),
              (F.Rounds l m d, fs, refl, (y, f', refl, dec, omega arith, omega arith, wide), later a B W steps (suc steps) fs o.kont (omega arith) o.stacked),
            ),
          )
          (omega arith)
          b
          (ap (resume H B rec o.kont) (sym e))
          (omega arith)

      pub on_rounds_block_first : (r : Range) (v : ℕ)
          → Leads H B rec a W w (fs ++ F.Rounds (BlockFirst r v) m d ∷ []) x h σ given steps entries recorded
          → Next H B rec a W w fs (F.Rounds (BlockFirst r v) m d) steps
          (((((fs ++ F.Rounds (BlockFirst r v) m d ∷ []) ++ F.Tests (BlockFirst r v) m d ∷ []) ++ F.Value v 64 ∷ []) ++ F.EndsRound m ∷ []) ++ F.Block r d ∷ []) x h σ given (steps + 1) entries recorded
      unfolding bind
      on_rounds_block_first r v ld =
          let l = BlockFirst r v in
          let o = top H B rec a W w fs (F.Rounds l m d) n ld in
          let q = o.means in
          let p = block_first_parts a d q.0 r v q.3 in
          let room = q.4 in
          let fuel = q.5 in
          let y = block_first p.1 p.0 in
          let wide : w_loop y + suc (weights o.kont) ≤ W = rw p.2 at q.6 in
          let g = fs ++ F.Rounds l m d ∷ [] in
          let g' = g ++ F.Tests l m d ∷ [] in
          let g'' = g' ++ F.Value v 64 ∷ [] in
          let len = snoc_length fs (F.Rounds l m d) in
          let len' = snoc_length g (F.Tests l m d) in
          let len'' = snoc_length g' (F.Value v 64) in
          let len''' = snoc_length g'' (F.EndsRound m) in
          let f' = q.1 - 1 in
          let ef : q.1 ≡ suc f' = omega arith in
          let e = iter_step (round_of H B rec y m (around o.kont)) q.1 f' (state_of h σ given steps entries recorded) ef (lt-ltb steps B b) in
          let dec : loop_at d a l ≡ Some y = q.3 ∙ ap (λ (z : Loop). Some z) p.2 in
          let at_round = later a B W steps (suc steps) fs o.kont (omega arith) o.stacked in
          paying H B rec a W w o (rounds y m q.1) (q.2 ∙ ap (λ (z : Loop). rounds z m q.1) p.2) _
          (block p.1 ∷ ends_round m ∷ value p.0 ∷ tests y m ∷ rounds y m f' ∷ o.kont) n h σ given entries (
            F.Block r d,
            g'' ++ F.EndsRound m ∷ [],
            refl,
            (p.1, refl, p.4, omega arith),
            (
              F.EndsRound m,
              g'',
              refl,
              refl,
              (
                F.Value v 64,
                g',
                refl,
                (p.0, refl, p.3, omega arith),
                (
                  F.Tests l m d,
                  g,
                  refl,
                  (y, refl, dec, omega arith),
                  (F.Rounds l m d, fs, refl, (y, f', refl, dec, omega arith, omega arith, wide), at_round),
                ),
              ),
            ),
          )
          (omega arith)
          b
          (ap (λ (r : Result S). resume H B rec o.kont (bind r (λ s. iter H (within H B) (round_of H B rec y m (around o.kont)) f' s))) (parted p.1 p.0 m (around o.kont) (state_of h σ given (suc steps) entries recorded)) ∙ ap (resume H B rec o.kont) (sym e))
          (omega arith)

    -- ---- what its test leads to
    module _ (m : Option ℕ) (d v : ℕ) (h' : S) (eh : h' ≡ H.next h (test_of 0 given)) where
      pub on_tests_threw : (l : Repeated) → thrown v ≡ H.answer h (test_of 0 given)
          → Leads H B rec a W w (fs ++ F.Tests l m d ∷ []) x h σ given steps entries recorded
          → Next H B rec a W w fs (F.Tests l m d) steps fs (E.Threw v) h' σ given steps entries recorded
      unfolding bind ask on_reply
      on_tests_threw l ea ld =
          let o = top H B rec a W w fs (F.Tests l m d) n ld in
          let q = o.means in
          goes H B rec a W w o (tests q.0 m) q.1 fs o.kont (E.Threw v) h' σ given entries o.stacked (positive q.0 (weights o.kont)) (rw (eh, ← ea)) (omega arith)

      pub on_tests_no : (l : Repeated) → Ok v ≡ H.answer h (test_of 0 given) → eqb v 0 ≡ true
          → Leads H B rec a W w (fs ++ F.Tests l m d ∷ []) x h σ given steps entries recorded
          → Next H B rec a W w fs (F.Tests l m d) steps fs (E.Broke None) h' σ v steps entries recorded
      unfolding bind ask on_reply branch
      on_tests_no l ea e0 ld =
          let o = top H B rec a W w fs (F.Tests l m d) n ld in
          let q = o.means in
          goes H B rec a W w o (tests q.0 m) q.1 fs o.kont (E.Broke None) h' σ v entries o.stacked (positive q.0 (weights o.kont)) (rw (eh, ← ea, e0)) (omega arith)

      module _ (ea : Ok v ≡ H.answer h (test_of 0 given)) (e0 : eqb v 0 ≡ false) where
        pub on_tests_test_first : (k : ℕ) (r : Range)
            → Leads H B rec a W w (fs ++ F.Tests (TestFirst k r) m d ∷ []) x h σ given steps entries recorded
            → Next H B rec a W w fs (F.Tests (TestFirst k r) m d) steps ((fs ++ F.EndsRound m ∷ []) ++ F.Block r d ∷ []) x h' σ v steps entries recorded
        unfolding bind ask on_reply branch
        on_tests_test_first k r ld =
            let o = top H B rec a W w fs (F.Tests (TestFirst k r) m d) n ld in
            let q = o.means in
            let p = test_first_parts a d q.0 k r q.2 in
            let room = q.3 in
            let len = snoc_length fs (F.EndsRound m) in
            stay H B rec a W w o (tests (test_first p.0 p.1) m) (q.1 ∙ ap (λ (z : Loop). tests z m) p.2) _ (block p.1 ∷ ends_round m ∷ o.kont) n h' σ v entries
            (F.Block r d, fs ++ F.EndsRound m ∷ [], refl, (p.1, refl, p.4, omega arith), (F.EndsRound m, fs, refl, refl, o.stacked))
            (omega arith)
            (rw (eh, ← ea, e0))
            (omega arith)

        pub on_tests_block_first : (r : Range) (k : ℕ)
            → Leads H B rec a W w (fs ++ F.Tests (BlockFirst r k) m d ∷ []) x h σ given steps entries recorded
            → Next H B rec a W w fs (F.Tests (BlockFirst r k) m d) steps fs x h' σ v steps entries recorded
        unfolding bind ask on_reply branch
        on_tests_block_first r k ld =
            let o = top H B rec a W w fs (F.Tests (BlockFirst r k) m d) n ld in
            let q = o.means in
            let p = block_first_parts a d q.0 r k q.2 in
            stay H B rec a W w o (tests (block_first p.1 p.0) m) (q.1 ∙ ap (λ (z : Loop). tests z m) p.2) fs o.kont n h' σ v entries o.stacked (omega arith) (rw (eh, ← ea, e0)) (omega arith)

        pub on_tests_update : (k u : ℕ) (r : Range)
            → Leads H B rec a W w (fs ++ F.Tests (Updating k (Some u) r) m d ∷ []) x h σ given steps entries recorded
            → Next H B rec a W w fs (F.Tests (Updating k (Some u) r) m d) steps (((fs ++ F.Value u 64 ∷ []) ++ F.EndsRound m ∷ []) ++ F.Block r d ∷ []) x h' σ v steps entries recorded
        unfolding bind ask on_reply branch
        on_tests_update k u r ld =
            let o = top H B rec a W w fs (F.Tests (Updating k (Some u) r) m d) n ld in
            let q = o.means in
            let p = updating_parts a d q.0 k (Some u) r q.2 in
            let z = bound (top_value a.inner u) _ p.1 p.5 in
            let y = updating p.0 (some_val z.0) p.2 in
            let ey : q.0 ≡ y = p.3 ∙ ap (λ (c : OptVal). updating p.0 c p.2) (sym (some_is z.2)) in
            let room = q.3 in
            let g = fs ++ F.Value u 64 ∷ [] in
            let len = snoc_length fs (F.Value u 64) in
            let len' = snoc_length g (F.EndsRound m) in
            stay H B rec a W w o (tests y m) (q.1 ∙ ap (λ (c : Loop). tests c m) ey) _ (block p.2 ∷ ends_round m ∷ value z.0 ∷ o.kont) n h' σ v entries
            (F.Block r d, g ++ F.EndsRound m ∷ [], refl, (p.2, refl, p.6, omega arith), (F.EndsRound m, g, refl, refl, (F.Value u 64, fs, refl, (z.0, refl, top_at a u z.0 z.1, omega arith), o.stacked)))
            (omega arith)
            (rw (eh, ← ea, e0))
            (omega arith)

        pub on_tests_no_update : (k : ℕ) (r : Range)
            → Leads H B rec a W w (fs ++ F.Tests (Updating k None r) m d ∷ []) x h σ given steps entries recorded
            → Next H B rec a W w fs (F.Tests (Updating k None r) m d) steps ((fs ++ F.EndsRound m ∷ []) ++ F.Block r d ∷ []) x h' σ v steps entries recorded
        unfolding bind ask on_reply branch
        on_tests_no_update k r ld =
            let o = top H B rec a W w fs (F.Tests (Updating k None r) m d) n ld in
            let q = o.means in
            let p = updating_parts a d q.0 k None r q.2 in
            let y = updating p.0 no_val p.2 in
            let ey : q.0 ≡ y = p.3 ∙ ap (λ (c : OptVal). updating p.0 c p.2) (sym (some_is p.5)) in
            let room = q.3 in
            let len = snoc_length fs (F.EndsRound m) in
            stay H B rec a W w o (tests y m) (q.1 ∙ ap (λ (c : Loop). tests c m) ey) _ (block p.2 ∷ ends_round m ∷ o.kont) n h' σ v entries
            (F.Block r d, fs ++ F.EndsRound m ∷ [], refl, (p.2, refl, p.6, omega arith), (F.EndsRound m, fs, refl, refl, o.stacked))
            (omega arith)
            (rw (eh, ← ea, e0) (ap (resume H B rec o.kont) (sym (bind_done _))))
            (omega arith)

    -- ---- by what the frame names
    module _ (m : Option ℕ) (d : ℕ) where
      module _ (b : steps < B) where
        pub rounds_test : (l : Repeated) → ((r : Range) (v : ℕ) → l ≡ BlockFirst r v → ⊥)
            → Leads H B rec a W w (fs ++ F.Rounds l m d ∷ []) x h σ given steps entries recorded
            → Next H B rec a W w fs (F.Rounds l m d) steps (((fs ++ F.Rounds l m d ∷ []) ++ F.Tests l m d ∷ []) ++ F.Value (test_of_loop l) 64 ∷ []) x h σ given (steps + 1) entries recorded
        rounds_test (TestFirst v r) e ld = on_rounds_test_first m d b v r ld
        rounds_test (Updating v u r) e ld = on_rounds_updating m d b v u r ld
        rounds_test (BlockFirst r v) e ld = absurd (e r v refl)

        pub rounds_block_first : (l : Repeated) (r : Range) (v : ℕ) → l ≡ BlockFirst r v
            → Leads H B rec a W w (fs ++ F.Rounds l m d ∷ []) x h σ given steps entries recorded
            → Next H B rec a W w fs (F.Rounds l m d) steps (((((fs ++ F.Rounds l m d ∷ []) ++ F.Tests l m d ∷ []) ++ F.Value (test_of_loop l) 64 ∷ []) ++ F.EndsRound m ∷ []) ++ F.Block r d ∷ []) x h σ given (steps + 1) entries recorded
        rounds_block_first l r v e ld = let l' = rw e at ld in rw e (on_rounds_block_first m d b r v l')

      module _ (v : ℕ) (h' : S) (eh : h' ≡ H.next h (test_of 0 given)) (ea : Ok v ≡ H.answer h (test_of 0 given)) (e0 : eqb v 0 ≡ false) where
        pub tests_test_first : (l : Repeated) (k : ℕ) (r : Range) → l ≡ TestFirst k r
            → Leads H B rec a W w (fs ++ F.Tests l m d ∷ []) x h σ given steps entries recorded
            → Next H B rec a W w fs (F.Tests l m d) steps ((fs ++ F.EndsRound m ∷ []) ++ F.Block r d ∷ []) x h' σ v steps entries recorded
        tests_test_first l k r e ld = let l' = rw e at ld in rw e (on_tests_test_first m d v h' eh ea e0 k r l')

        pub tests_block_first : (l : Repeated) (r : Range) (k : ℕ) → l ≡ BlockFirst r k
            → Leads H B rec a W w (fs ++ F.Tests l m d ∷ []) x h σ given steps entries recorded
            → Next H B rec a W w fs (F.Tests l m d) steps fs x h' σ v steps entries recorded
        tests_block_first l r k e ld = let l' = rw e at ld in rw e (on_tests_block_first m d v h' eh ea e0 r k l')

        pub tests_update : (l : Repeated) (k : ℕ) (u : ℕ) (r : Range) → l ≡ Updating k (Some u) r
            → Leads H B rec a W w (fs ++ F.Tests l m d ∷ []) x h σ given steps entries recorded
            → Next H B rec a W w fs (F.Tests l m d) steps (((fs ++ F.Value u 64 ∷ []) ++ F.EndsRound m ∷ []) ++ F.Block r d ∷ []) x h' σ v steps entries recorded
        tests_update l k u r e ld = let l' = rw e at ld in rw e (on_tests_update m d v h' eh ea e0 k u r l')

        pub tests_no_update : (l : Repeated) (k : ℕ) (r : Range) → l ≡ Updating k None r
            → Leads H B rec a W w (fs ++ F.Tests l m d ∷ []) x h σ given steps entries recorded
            → Next H B rec a W w fs (F.Tests l m d) steps ((fs ++ F.EndsRound m ∷ []) ++ F.Block r d ∷ []) x h' σ v steps entries recorded
        tests_no_update l k r e ld = let l' = rw e at ld in rw e (on_tests_no_update m d v h' eh ea e0 k r l')

        pub tests_updating : (l : Repeated) (k : ℕ) (o : Option ℕ) (r : Range) → l ≡ Updating k o r
            → Leads H B rec a W w (fs ++ F.Tests l m d ∷ []) x h σ given steps entries recorded
            → Next H B rec a W w fs (F.Tests l m d) steps (((fs ++ updates o) ++ F.EndsRound m ∷ []) ++ F.Block r d ∷ []) x h' σ v steps entries recorded
        tests_updating l k (Some u) r e ld = tests_update l k u r e ld
        tests_updating l k None r e ld = rw append-nil (tests_no_update l k r e ld)
