-- Every construct keeps the relation between two runs: what is built alike from related parts is related.
-- Values first, then statements.
use Rattle.std.proofs.Common.{◌≡◌, ℕ, zero, suc, ◌<◌, Bool, true, false, eqb, List, [], ◌∷◌, Some, None, Option, refl, ap, arith}
use Rattle.hir.specs.declared.place.Place.{Place}
use Rattle.hir.specs.declared.terminal.ReactiveLabel.{ReactiveLabel}
use Rattle.hir.specs.declared.terminal.ReactiveTerminalTargetKind.{ReactiveTerminalTargetKind}
use Rattle.hir.specs.declared.terminal.ReactiveTerminalTargetKind.TheVariants.{Implicit, Labeled, Unlabeled}
use Rattle.hir.specs.Tree.{Op, Val, operation, logical, conditional, sequence, optional, OptVal, no_val, some_val, Instr, instr, Instrs, inil, icons, Stmt, instruction, scope, pruned, terminal, Term, break, continue, return, throw, switch, do_while, while, for, for_of, for_in, if, label, try, Cases, knil, kcons, OptBlock, no_block, some_block, Block, nil, cons}
use Rattle.semantics.specs.Machine.{Meaning, State, normal, broke, continued, returned, threw, Result, done, spent, at, map_out, ask_each, iter}
use Rattle.semantics.specs.Targets.{mark, unless_implicit, mark_inside}
use Rattle.semantics.specs.Exec.{Class, loads, declares, stores, asks_each, asks, class, operator_number, end_loop, default, eval_op, eval_v, eval_i, eval_is, eval_o, select, tested, run_s, run_t, run_from, run_o, run_b, always}
use Rattle.simulation.specs.WellFormed.{All, IfSome, PlaceOk, LabelOk, OpOk, OkV, OkI, OkIs, OkU}
use Rattle.simulation.proofs.Rel.{Setting, Beside, Rel, Below, normal_rel, same_rel, bind_rel, handle_rel, map_rel, branch_rel, wrote_near, idle_near, gave_near, enter_near, assign_near, leave_rel, last_same, stored_near, values_same, loop_catches, round_catches, label_catches, ask_rel, test_rel, tick_rel, iter_rel}

module _ {S : Type 0} (K : Setting S) (H : Meaning S) where
  -- ---- values
  each_rel : (kind payload : ℕ) (vs vs' : List ℕ) (n : ℕ) (ps : List Place) → vs ≡ vs' → All (PlaceOk K.Z) ps → (s s' : State S) → Beside K false s s' → Rel K false (ask_each H kind payload vs n ps s) (ask_each H kind payload vs' n ps s')
  each_rel kind payload vs vs' n [] e b s s' h = normal_rel K h
  each_rel kind payload vs vs' n (p ∷ ps) e b s s' h = ask_rel K H kind payload n _ _ s s' _ _ e h
      (λ t t' h. each_rel kind payload vs vs' (suc n) ps e b.1 _ _ (idle_near K (wrote_near K p.identifier _ _ b.0 h.same_given h)))

  op_rel : (c : Class) (o : Op) → OpOk K.Z o → (s s' : State S) → Beside K false s s' → Rel K true (eval_op H c o s) (eval_op H c o s')
  op_rel loads o w s s' h = normal_rel K (gave_near K _ _ (last_same K o.operands s s' 0 0 w.operands_in refl h) h)
  op_rel declares o w s s' h = normal_rel K (gave_near K 0 0 refl (stored_near K o.written 0 0 w.written_in refl h))
  op_rel stores o w s s' h = let e = last_same K o.operands s s' 0 0 w.operands_in refl h in normal_rel K (gave_near K _ _ e (stored_near K o.written _ _ w.written_in e h))
  op_rel asks_each o w s s' h = let e = values_same K o.operands s s' w.operands_in h in ask_rel K H o.kind o.payload 0 _ _ s s' _ _ e h
      (λ t t' h₁. bind_rel K (each_rel o.kind o.payload _ _ 1 o.written e w.written_in t t' (idle_near K h₁)) (λ u u' h. normal_rel K (gave_near K _ _ h₁.same_given h)))
  op_rel asks o w s s' h = ask_rel K H o.kind o.payload 0 _ _ s s' _ _ (values_same K o.operands s s' w.operands_in h) h (λ t t' h. normal_rel K h)

  mutual
    pub value_v : (v : Val) → OkV K.Z v → (s s' : State S) → Beside K false s s' → Rel K true (eval_v H (always H) v s) (eval_v H (always H) v s')
    value_v (operation o) w s s' h = op_rel (class o.kind) o w s s' h
    value_v (logical o a b) w s s' h = bind_rel K (value_v a w.0 s s' h) (λ t t' h₁. test_rel K H (suc (operator_number o)) t t' h₁ (λ u u' h. value_v b w.1 u u' (idle_near K h)) (λ u u' h. normal_rel K (gave_near K _ _ h₁.same_given h)))
    value_v (conditional c a b) w s s' h = bind_rel K (value_v c w.0 s s' h) (λ t t' h. test_rel K H 0 t t' h (λ u u' h. value_v a w.1 u u' (idle_near K h)) (λ u u' h. value_v b w.2 u u' (idle_near K h)))
    value_v (sequence is i v) w s s' h = bind_rel K (value_is is w.0 s s' h) (λ t t' h. value_v v w.1 t t' h)
    value_v (optional v o) w s s' h = value_v v w s s' h

    pub value_i : (i : Instr) → OkI K.Z i → (s s' : State S) → Beside K false s s' → Rel K false (eval_i H (always H) i s) (eval_i H (always H) i s')
    value_i (instr i l v n) w s s' h = tick_rel K H s s' _ _ h (λ h. bind_rel K (value_v v w.1 _ _ h) (λ u u' h. normal_rel K (assign_near K l w.0 h)))

    pub value_is : (is : Instrs) → OkIs K.Z is → (s s' : State S) → Beside K false s s' → Rel K false (eval_is H (always H) is s) (eval_is H (always H) is s')
    value_is inil w s s' h = normal_rel K h
    value_is (icons i is) w s s' h = bind_rel K (value_i i w.0 s s' h) (λ t t' h. value_is is w.1 t t' h)

  -- an update gives nothing that counts
  pub update_u : (u : OptVal) → OkU K.Z u → (s s' : State S) → Beside K false s s' → Rel K false (eval_o H (always H) u s) (eval_o H (always H) u s')
  update_u no_val w s s' h = normal_rel K h
  update_u (some_val v) w s s' h = idle_rel (value_v v w s s' h)
    where
      idle_rel : {d r : Result S} → Rel K true d r → Rel K false d r
      idle_rel {d = done normal t} h = rw h.rel.1 (normal_rel K (idle_near K h.rel.2))
      idle_rel {d = done (broke l) t} h = record { rel = h.rel }
      idle_rel {d = done (continued l) t} h = record { rel = h.rel }
      idle_rel {d = done (returned v) t} h = record { rel = h.rel }
      idle_rel {d = done (threw v) t} h = record { rel = h.rel }
      idle_rel {d = spent t} h = record { rel = h.rel }

  -- a value, tested; no leaves the loop
  tested_rel : (v : Val) {y y' : State S → Result S} → OkV K.Z v → ((t t' : State S) → Beside K false t t' → Rel K false (y t) (y' t')) → (s s' : State S) → Beside K false s s'
      → Rel K false (tested H (always H) v y s) (tested H (always H) v y' s')
  tested_rel v w g s s' h = bind_rel K (value_v v w s s' h) (λ t t' h. test_rel K H 0 t t' h (λ u u' h. g u u' (idle_near K h)) (λ u u' h. same_rel K (broke None) tt (idle_near K h)))

  -- ---- labels
  mark_below : (m : Option ReactiveLabel) → IfSome (LabelOk K.Z) m → Below K.lab (mark m)
  mark_below None k = tt
  mark_below (Some l) k = go l.implicit
    where
      go : (b : Bool) → Below K.lab (unless_implicit l.id b)
      go true = tt
      go false = omega (arith, k, K.room)

  inside_below : (t : Term) (m : Option ReactiveLabel) → IfSome (LabelOk K.Z) m → Below K.lab (mark_inside t m)
  inside_below (break l i x) m k = tt
  inside_below (continue l i x) m k = tt
  inside_below (return p i) m k = mark_below m k
  inside_below (throw p i) m k = mark_below m k
  inside_below (switch p cs i) m k = mark_below m k
  inside_below (do_while b v i) m k = mark_below m k
  inside_below (while v b i) m k = mark_below m k
  inside_below (for a v u b i) m k = mark_below m k
  inside_below (for_of a v b i n) m k = mark_below m k
  inside_below (for_in v b i n) m k = mark_below m k
  inside_below (if p b c i) m k = mark_below m k
  inside_below (label b i) m k = mark_below m k
  inside_below (try b p c i) m k = mark_below m k

-- ---- statements
-- two runs: the first with the records `first`, the second with `second`, each with at most `bound` rounds for a loop
pub record Runs (S : Type 0) : Type 1 where
  pub setting : Setting S
  pub host : Meaning S
  pub first : ℕ → Option ℕ
  pub second : ℕ → Option ℕ
  pub bound : ℕ

module _ {S : Type 0} (R : Runs S) where
  abbrev K : Setting S
  K = R.setting

  abbrev H : Meaning S
  H = R.host

  abbrev rec : ℕ → Option ℕ
  rec x = R.first x

  abbrev rec' : ℕ → Option ℕ
  rec' x = R.second x

  abbrev f : ℕ
  f = R.bound

  pub record SRel (x x' : Stmt) : Type 0 where
    pub srel : (s s' : State S) → Beside K false s s' → Rel K false (run_s H (always H) rec f x s) (run_s H (always H) rec' f x' s')

  -- of a terminal with the label m
  pub record TRel (m : Option ReactiveLabel) (x x' : Term) : Type 0 where
    pub inside : mark_inside x m ≡ mark_inside x' m
    pub trel : (s s' : State S) → Beside K false s s' → Rel K false (run_t H (always H) rec f x (mark m) s) (run_t H (always H) rec' f x' (mark m) s')

  pub record BRel (b b' : Block) : Type 0 where
    pub brel : (s s' : State S) → Beside K false s s' → Rel K false (run_b H (always H) rec f b s) (run_b H (always H) rec' f b' s')

  pub record ORel (b b' : OptBlock) : Type 0 where
    pub orel : (s s' : State S) → Beside K false s s' → Rel K false (run_o H (always H) rec f b s) (run_o H (always H) rec' f b' s')

  pub record KRel (c c' : Cases) : Type 0 where
    pub defaults : default c ≡ default c'
    pub selects : (v v' n e : ℕ) → v ≡ v' → (s s' : State S) → Beside K false s s' → Rel K true (select H (always H) v c n e s) (select H (always H) v' c' n e s')
    pub from : (n : ℕ) (s s' : State S) → Beside K false s s' → Rel K false (run_from H (always H) rec f c n s) (run_from H (always H) rec' f c' n s')

  pub nil_rel : BRel nil nil
  nil_rel = record { brel = λ s s' h. normal_rel K h }

  pub cons_rel : {x x' : Stmt} {b b' : Block} → SRel x x' → BRel b b' → BRel (cons x b) (cons x' b')
  cons_rel g k = record { brel = λ s s' h. bind_rel K (g.srel s s' h) (λ t t' h. k.brel t t' h) }

  pub no_rel : ORel no_block no_block
  no_rel = record { orel = λ s s' h. normal_rel K h }

  pub some_rel : {b b' : Block} → BRel b b' → ORel (some_block b) (some_block b')
  some_rel g = record { orel = λ s s' h. g.brel s s' h }

  pub instruction_rel : (i : Instr) → OkI K.Z i → SRel (instruction i) (instruction i)
  instruction_rel i w = record { srel = λ s s' h. value_i K H i w s s' h }

  pub scope_rel : (x : ℕ) {b b' : Block} → rec x ≡ rec' x → Below K.Z.identifiers (rec x) → BRel b b' → SRel (scope x b) (scope x b')
  scope_rel x e k g = record { srel = λ s s' h. tick_rel K H s s' _ _ h (λ h. rw (← e) (bind_rel K (g.brel _ _ (enter_near K (rec x) h)) (λ t t' h. leave_rel K (rec x) k h))) }

  pub pruned_rel : (x : ℕ) {b b' : Block} → BRel b b' → SRel (pruned x b) (pruned x b')
  pruned_rel x g = record { srel = λ s s' h. tick_rel K H s s' _ _ h (λ h. g.brel _ _ h) }

  pub terminal_rel : (m : Option ReactiveLabel) {x x' : Term} → IfSome (LabelOk K.Z) m → TRel m x x' → SRel (terminal x m) (terminal x' m)
  terminal_rel m {x} {x'} k g = record { srel = λ s s' h. tick_rel K H s s' _ _ h (λ h. rw (← g.inside) (map_rel K (label_catches K _ (inside_below K H x m k)) (g.trel _ _ h))) }

  pub break_rel : (m : Option ReactiveLabel) (l i : ℕ) (k : ReactiveTerminalTargetKind) → l < K.Z.blocks → TRel m (break l i k) (break l i k)
  break_rel m l i Implicit w = record { inside = refl; trel = λ s s' h. normal_rel K h }
  break_rel m l i Unlabeled w = record { inside = refl; trel = λ s s' h. same_rel K (broke None) tt h }
  break_rel m l i Labeled w = record { inside = refl; trel = λ s s' h. same_rel K (broke (Some l)) (omega (arith, K.room)) h }

  pub continue_rel : (m : Option ReactiveLabel) (l i : ℕ) (k : ReactiveTerminalTargetKind) → l < K.Z.blocks → TRel m (continue l i k) (continue l i k)
  continue_rel m l i Implicit w = record { inside = refl; trel = λ s s' h. normal_rel K h }
  continue_rel m l i Unlabeled w = record { inside = refl; trel = λ s s' h. same_rel K (continued None) tt h }
  continue_rel m l i Labeled w = record { inside = refl; trel = λ s s' h. same_rel K (continued (Some l)) (omega (arith, K.room)) h }

  pub return_rel : (m : Option ReactiveLabel) (p : Place) (i : ℕ) → PlaceOk K.Z p → TRel m (return p i) (return p i)
  return_rel m p i k = record { inside = refl; trel = λ s s' h. rw (h.same_store p.identifier k) (same_rel K (returned (at s' p)) tt h) }

  pub throw_rel : (m : Option ReactiveLabel) (p : Place) (i : ℕ) → PlaceOk K.Z p → TRel m (throw p i) (throw p i)
  throw_rel m p i k = record { inside = refl; trel = λ s s' h. rw (h.same_store p.identifier k) (same_rel K (threw (at s' p)) tt h) }

  -- not by `rw` at a field of a state: it would rewrite the state too, which is the record of its fields
  from_at : {c c' : Cases} → KRel c c' → (n n' : ℕ) → n ≡ n' → (s s' : State S) → Beside K false s s' → Rel K false (run_from H (always H) rec f c n s) (run_from H (always H) rec' f c' n' s')
  from_at g n n' e s s' h = rw e (g.from n' s s' h)

  pub switch_rel : (m : Option ReactiveLabel) (p : Place) {c c' : Cases} (i : ℕ) → IfSome (LabelOk K.Z) m → PlaceOk K.Z p → KRel c c' → TRel m (switch p c i) (switch p c' i)
  switch_rel m p {c} {c'} i l k g = record {
    inside = refl;
    trel = λ s s' h. rw g.defaults (bind_rel K (g.selects _ _ 0 (default c') (h.same_store p.identifier k) s s' h)
        (λ t t' h. map_rel K (loop_catches K (mark m) (mark_below K H m l)) (from_at g _ _ h.same_given t t' (idle_near K h))));
  }

  -- a loop's rounds
  rounds : (m : Option ReactiveLabel) {round round' : State S → Result S} → IfSome (LabelOk K.Z) m → ((s s' : State S) → Beside K false s s' → Rel K false (round s) (round' s')) → (s s' : State S) → Beside K false s s'
      → Rel K false (map_out (end_loop (mark m)) (iter H (always H) round f s)) (map_out (end_loop (mark m)) (iter H (always H) round' f s'))
  rounds m l g s s' h = map_rel K (loop_catches K (mark m) (mark_below K H m l)) (iter_rel K H g f s s' h)

  pub do_while_rel : (m : Option ReactiveLabel) {b b' : Block} (v : Val) (i : ℕ) → IfSome (LabelOk K.Z) m → OkV K.Z v → BRel b b' → TRel m (do_while b v i) (do_while b' v i)
  do_while_rel m v i l w g = record { inside = refl; trel = rounds m l (λ s s' h. bind_rel K (map_rel K (round_catches K (mark m)) (g.brel s s' h)) (λ t t' h. tested_rel K H v w (λ u u' h. normal_rel K h) t t' h)) }

  pub while_rel : (m : Option ReactiveLabel) (v : Val) {b b' : Block} (i : ℕ) → IfSome (LabelOk K.Z) m → OkV K.Z v → BRel b b' → TRel m (while v b i) (while v b' i)
  while_rel m v i l w g = record { inside = refl; trel = rounds m l (tested_rel K H v w (λ u u' h. map_rel K (round_catches K (mark m)) (g.brel u u' h))) }

  pub for_rel : (m : Option ReactiveLabel) (a v : Val) (u : OptVal) {b b' : Block} (i : ℕ) → IfSome (LabelOk K.Z) m → OkV K.Z a → OkV K.Z v → OkU K.Z u → BRel b b' → TRel m (for a v u b i) (for a v u b' i)
  for_rel m a v u i l wa wv wu g = record { inside = refl; trel = λ s s' h. bind_rel K (value_v K H a wa s s' h) (λ t t' h. rounds m l (tested_rel K H v wv (λ x x' h. bind_rel K (map_rel K (round_catches K (mark m)) (g.brel x x' h)) (λ y y' h. update_u K H u wu y y' h))) t t' (idle_near K h)) }

  pub for_of_rel : (m : Option ReactiveLabel) (a v : Val) {b b' : Block} (i n : ℕ) → IfSome (LabelOk K.Z) m → OkV K.Z a → OkV K.Z v → BRel b b' → TRel m (for_of a v b i n) (for_of a v b' i n)
  for_of_rel m a v i n l wa wv g = record { inside = refl; trel = λ s s' h. bind_rel K (value_v K H a wa s s' h) (λ t t' h. rounds m l (tested_rel K H v wv (λ x x' h. map_rel K (round_catches K (mark m)) (g.brel x x' h))) t t' (idle_near K h)) }

  pub for_in_rel : (m : Option ReactiveLabel) (v : Val) {b b' : Block} (i n : ℕ) → IfSome (LabelOk K.Z) m → OkV K.Z v → BRel b b' → TRel m (for_in v b i n) (for_in v b' i n)
  for_in_rel m v i n l w g = record { inside = refl; trel = rounds m l (tested_rel K H v w (λ u u' h. map_rel K (round_catches K (mark m)) (g.brel u u' h))) }

  pub if_rel : (m : Option ReactiveLabel) (p : Place) {b b' : Block} {c c' : OptBlock} (i : ℕ) → PlaceOk K.Z p → BRel b b' → ORel c c' → TRel m (if p b c i) (if p b' c' i)
  if_rel m p i k gb gc = record { inside = refl; trel = λ s s' h. test_rel K H 0 _ _ (gave_near K _ _ (h.same_store p.identifier k) h) (λ u u' h. gb.brel u u' (idle_near K h)) (λ u u' h. gc.orel u u' (idle_near K h)) }

  pub label_rel : (m : Option ReactiveLabel) {b b' : Block} (i : ℕ) → BRel b b' → TRel m (label b i) (label b' i)
  label_rel m i g = record { inside = refl; trel = λ s s' h. g.brel s s' h }

  pub try_rel : (m : Option ReactiveLabel) {b b' : Block} (p : Option Place) {c c' : Block} (i : ℕ) → IfSome (PlaceOk K.Z) p → BRel b b' → BRel c c' → TRel m (try b p c i) (try b' p c' i)
  try_rel m p i k g gc = record { inside = refl; trel = λ s s' h. handle_rel K (g.brel s s' h) (λ v t t' h. gc.brel _ _ (assign_near K p k (gave_near K v v refl h))) }

  pub knil_rel : KRel knil knil
  knil_rel = record { defaults = refl; selects = λ v v' n e q s s' h. normal_rel K (gave_near K e e refl h); from = λ n s s' h. normal_rel K h }

  pub kcons_rel : (t : Option Place) {b b' : OptBlock} {c c' : Cases} → IfSome (PlaceOk K.Z) t → ORel b b' → KRel c c' → KRel (kcons t b c) (kcons t b' c')
  kcons_rel t {b} {b'} {c} {c'} k gb g = record { defaults = def t; selects = sel t k; from = fr }
    where
      def : (t : Option Place) → default (kcons t b c) ≡ default (kcons t b' c')
      def None = refl
      def (Some p) = ap suc g.defaults

      sel : (t : Option Place) → IfSome (PlaceOk K.Z) t → (v v' n e : ℕ) → v ≡ v' → (s s' : State S) → Beside K false s s' → Rel K true (select H (always H) v (kcons t b c) n e s) (select H (always H) v' (kcons t b' c') n e s')
      sel None k v v' n e q s s' h = g.selects v v' (suc n) e q s s' h
      sel (Some p) k v v' n e q s s' h = ask_rel K H 43 0 0 _ _ s s' _ _ (let r = h.same_store p.identifier k in cc) h
          (λ t t' h. branch_rel K _ _ _ _ _ _ t t' (ap (λ x. eqb x 0) h.same_given) (g.selects v v' (suc n) e q t t' (idle_near K h)) (normal_rel K (gave_near K n n refl h)))

      fr : (n : ℕ) (s s' : State S) → Beside K false s s' → Rel K false (run_from H (always H) rec f (kcons t b c) n s) (run_from H (always H) rec' f (kcons t b' c') n s')
      fr zero s s' h = bind_rel K (gb.orel s s' h) (λ u u' h. g.from zero u u' h)
      fr (suc n) s s' h = g.from n s s' h
