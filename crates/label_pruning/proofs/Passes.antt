-- A block in which no labeled Break targets the label l around it does not end with a break to l.
-- So the Label l has nothing to catch.
use Rattle.std.proofs.Common.{◌≡◌, ℕ, zero, suc, Bool, true, false, cond, ◌||◌, eqb, List, [], ◌∷◌, Some, None, Option, refl, arith, eqb-true, Ok, Err}
use Rattle.hir.specs.declared.place.Place.{Place}
use Rattle.hir.specs.declared.terminal.ReactiveTerminalTargetKind.TheVariants.{Implicit, Labeled, Unlabeled}
use Rattle.hir.specs.Tree.{Op, Val, operation, logical, conditional, sequence, optional, OptVal, no_val, some_val, Instr, instr, Instrs, inil, icons, Stmt, instruction, scope, pruned, terminal, Term, break, continue, return, throw, switch, do_while, while, for, for_of, for_in, if, label, try, Cases, knil, kcons, OptBlock, no_block, some_block, Block, nil, cons}
use Rattle.host.specs.Asked.{asked, Reply}
use Rattle.semantics.specs.Machine.{Meaning, State, Out, normal, broke, continued, returned, threw, Result, done, spent, stepped, moved, branch, bind, handle, map_out, leave, on_reply, ask, test, ask_each, tick, iter}
use Rattle.semantics.specs.Exec.{Class, loads, declares, stores, asks_each, asks, class, when, has_label, end_loop, end_round, end_label, eval_op, eval_v, eval_i, eval_is, eval_o, select, tested, run_s, run_t, run_from, run_o, run_b, always, default}
use Rattle.semantics.specs.Targets.{mark, mark_inside}
use Rattle.label_pruning.specs.Pruning.{targets_s, targets_t, targets_k, targets_o, targets_b}

pub not_both : {A : Type 0} → true ≡ false → A
not_both e = let z : ◌≡◌ {A = ℕ} 0 1 = cc in absurd (omega arith)

pub or_left : (a b : Bool) → (a || b) ≡ false → a ≡ false
or_left true b e = e
or_left false b e = refl

pub or_right : (a b : Bool) → (a || b) ≡ false → b ≡ false
or_right true b e = not_both e
or_right false b e = e

module _ (l : ℕ) where
  abbrev PassOut : Out → Type 0
  PassOut normal = Unit {0}
  PassOut (broke None) = Unit {0}
  PassOut (broke (Some k)) = eqb k l ≡ false
  PassOut (continued k) = Unit {0}
  PassOut (returned v) = Unit {0}
  PassOut (threw v) = Unit {0}

  when_pass : (b : Bool) (o : Out) → PassOut o → PassOut (when b o)
  when_pass true o h = tt
  when_pass false o h = h

  loop_passes : (m : Option ℕ) (o : Out) → PassOut o → PassOut (end_loop m o)
  loop_passes m normal h = tt
  loop_passes m (broke None) h = tt
  loop_passes m (broke (Some k)) h = when_pass (has_label k m) (broke (Some k)) h
  loop_passes m (continued k) h = tt
  loop_passes m (returned v) h = tt
  loop_passes m (threw v) h = tt

  round_passes : (m : Option ℕ) (o : Out) → PassOut o → PassOut (end_round m o)
  round_passes m normal h = tt
  round_passes m (broke k) h = h
  round_passes m (continued None) h = tt
  round_passes m (continued (Some k)) h = when_pass (has_label k m) (continued (Some k)) tt
  round_passes m (returned v) h = tt
  round_passes m (threw v) h = tt

  label_passes : (m : Option ℕ) (o : Out) → PassOut o → PassOut (end_label m o)
  label_passes m normal h = tt
  label_passes m (broke None) h = tt
  label_passes m (broke (Some k)) h = when_pass (has_label k m) (broke (Some k)) h
  label_passes m (continued k) h = tt
  label_passes m (returned v) h = tt
  label_passes m (threw v) h = tt

  -- at a statement with the label l itself nothing is asked of what is inside
  label_ends : (o : Out) → PassOut (end_label (Some l) o)
  label_ends normal = tt
  label_ends (broke None) = tt
  label_ends (broke (Some k)) = go (eqb k l) refl
    where
      go : (b : Bool) → eqb k l ≡ b → PassOut (when b (broke (Some k)))
      go true e = tt
      go false e = e
  label_ends (continued k) = tt
  label_ends (returned v) = tt
  label_ends (threw v) = tt

module _ {S : Type 0} (l : ℕ) where
  abbrev PassResult : Result S → Type 0
  PassResult (done o s) = PassOut l o
  PassResult (spent s) = Unit {0}

  pub record Pass (r : Result S) : Type 0 where
    pub pass : PassResult r

  normal_pass : {s : State S} → Pass (done normal s)
  normal_pass = record { pass = tt }

  bind_pass : {r : Result S} {k : State S → Result S} → Pass r → ((t : State S) → Pass (k t)) → Pass (bind r k)
  unfolding bind
  bind_pass {r = done normal t} h g = g t
  bind_pass {r = done (broke m) t} h g = record { pass = h.pass }
  bind_pass {r = done (continued m) t} h g = record { pass = tt }
  bind_pass {r = done (returned m) t} h g = record { pass = tt }
  bind_pass {r = done (threw m) t} h g = record { pass = tt }
  bind_pass {r = spent t} h g = record { pass = tt }

  handle_pass : {r : Result S} {k : ℕ → State S → Result S} → Pass r → ((v : ℕ) (t : State S) → Pass (k v t)) → Pass (handle r k)
  unfolding handle
  handle_pass {r = done normal t} h g = record { pass = tt }
  handle_pass {r = done (broke m) t} h g = record { pass = h.pass }
  handle_pass {r = done (continued m) t} h g = record { pass = tt }
  handle_pass {r = done (returned m) t} h g = record { pass = tt }
  handle_pass {r = done (threw v) t} h g = g v t
  handle_pass {r = spent t} h g = record { pass = tt }

  map_pass : {r : Result S} (g : Out → Out) → ((o : Out) → PassOut l o → PassOut l (g o)) → Pass r → Pass (map_out g r)
  unfolding map_out
  map_pass {r = done o t} g f h = record { pass = f o h.pass }
  map_pass {r = spent t} g f h = record { pass = tt }

  ends_pass : (r : Result S) → Pass (map_out (end_label (Some l)) r)
  unfolding map_out
  ends_pass (done o t) = record { pass = label_ends l o }
  ends_pass (spent t) = record { pass = tt }

  inside_pass : {r : Result S} (m : Option ℕ) (b : Bool) → cond (has_label l m) false b ≡ false → (b ≡ false → Pass r) → Pass (map_out (end_label m) r)
  inside_pass None b e f = map_pass (end_label None) (label_passes l None) (f e)
  inside_pass {r} (Some k) b e f = go (eqb l k) refl e
    where
      go : (c : Bool) → eqb l k ≡ c → cond c false b ≡ false → Pass (map_out (end_label (Some k)) r)
      go true q e = rw (← eqb-true l k q) (ends_pass r)
      go false q e = map_pass (end_label (Some k)) (label_passes l (Some k)) (f e)

  branch_pass : (b : Bool) (f g : State S → Result S) (t : State S) → Pass (f t) → Pass (g t) → Pass (branch b f g t)
  unfolding branch
  branch_pass true f g t p q = p
  branch_pass false f g t p q = q

  leave_pass : (o : Option ℕ) (t : State S) → Pass (leave o t)
  unfolding leave
  leave_pass None t = normal_pass
  leave_pass (Some p) t = branch_pass _ _ _ t normal_pass (record { pass = tt })

  -- nothing to catch
  pub no_break : (r : Result S) → Pass r → map_out (end_label (Some l)) r ≡ r
  unfolding map_out
  no_break (done normal t) h = refl
  no_break (done (broke None) t) h = refl
  no_break (done (broke (Some k)) t) h = rw h.pass
  no_break (done (continued k) t) h = refl
  no_break (done (returned k) t) h = refl
  no_break (done (threw k) t) h = refl
  no_break (spent t) h = refl

  module _ (H : Meaning S) where
    ask_pass : (kind payload position : ℕ) (vs : List ℕ) (s : State S) {k : State S → Result S} → ((t : State S) → Pass (k t)) → Pass (ask H kind payload position vs s k)
    unfolding ask on_reply
    ask_pass kind payload position vs s {k} g = go (H.answer s.host _)
      where
        go : (r : Reply) → Pass (on_reply H r (moved s (H.next s.host (asked (record { kind = kind; payload = payload; position = position }) vs))) k)
        go (Ok v) = g _
        go (Err t) = record { pass = tt }

    test_pass : (payload : ℕ) {y n : State S → Result S} (s : State S) → ((t : State S) → Pass (y t)) → ((t : State S) → Pass (n t)) → Pass (test H payload y n s)
    test_pass payload s f g = ask_pass 42 payload 0 _ s (λ t. branch_pass _ _ _ t (g t) (f t))

    each_pass : (kind payload : ℕ) (vs : List ℕ) (n : ℕ) (ps : List Place) (s : State S) → Pass (ask_each H kind payload vs n ps s)
    each_pass kind payload vs n [] s = normal_pass
    each_pass kind payload vs n (p ∷ ps) s = ask_pass kind payload n vs s (λ t. each_pass kind payload vs (suc n) ps _)

    tick_pass : (s : State S) (k : State S → Result S) → Pass (k (stepped s)) → Pass (tick H (always H) s k)
    unfolding tick branch
    tick_pass s k h = h

    iter_pass : {round : State S → Result S} → ((t : State S) → Pass (round t)) → (f : ℕ) (s : State S) → Pass (iter H (always H) round f s)
    unfolding iter
    iter_pass g zero s = record { pass = tt }
    iter_pass g (suc f) s = tick_pass s _ (bind_pass (g _) (λ u. iter_pass g f u))

    op_pass : (c : Class) (o : Op) (s : State S) → Pass (eval_op H c o s)
    op_pass loads o s = normal_pass
    op_pass declares o s = normal_pass
    op_pass stores o s = normal_pass
    op_pass asks_each o s = ask_pass _ _ 0 _ s (λ t. bind_pass (each_pass _ _ _ 1 o.written t) (λ u. normal_pass))
    op_pass asks o s = ask_pass _ _ 0 _ s (λ t. normal_pass)

    mutual
      pass_v : (v : Val) (s : State S) → Pass (eval_v H (always H) v s)
      pass_v (operation o) s = op_pass (class o.kind) o s
      pass_v (logical o a b) s = bind_pass (pass_v a s) (λ t. test_pass _ t (λ u. pass_v b u) (λ u. normal_pass))
      pass_v (conditional c a b) s = bind_pass (pass_v c s) (λ t. test_pass 0 t (λ u. pass_v a u) (λ u. pass_v b u))
      pass_v (sequence is i v) s = bind_pass (pass_is is s) (λ t. pass_v v t)
      pass_v (optional v o) s = pass_v v s

      pass_i : (i : Instr) (s : State S) → Pass (eval_i H (always H) i s)
      pass_i (instr i d v n) s = tick_pass s _ (bind_pass (pass_v v _) (λ u. normal_pass))

      pass_is : (is : Instrs) (s : State S) → Pass (eval_is H (always H) is s)
      pass_is inil s = normal_pass
      pass_is (icons i is) s = bind_pass (pass_i i s) (λ t. pass_is is t)

    pass_u : (u : OptVal) (s : State S) → Pass (eval_o H (always H) u s)
    pass_u no_val s = normal_pass
    pass_u (some_val v) s = pass_v v s

    select_pass : (v : ℕ) (cs : Cases) (n e : ℕ) (s : State S) → Pass (select H (always H) v cs n e s)
    select_pass v knil n e s = normal_pass
    select_pass v (kcons None b cs) n e s = select_pass v cs (suc n) e s
    select_pass v (kcons (Some p) b cs) n e s = ask_pass 43 0 0 _ s (λ t. branch_pass _ _ _ t (select_pass v cs (suc n) e t) normal_pass)

    tested_pass : (v : Val) {y : State S → Result S} (s : State S) → ((t : State S) → Pass (y t)) → Pass (tested H (always H) v y s)
    tested_pass v s f = bind_pass (pass_v v s) (λ t. test_pass 0 t f (λ u. record { pass = tt }))

    module _ (rec : ℕ → Option ℕ) (f : ℕ) where
      round_pass : (m : Option ℕ) {r : Result S} → Pass r → Pass (map_out (end_round m) r)
      round_pass m h = map_pass (end_round m) (round_passes l m) h

      loop_pass : (m : Option ℕ) {r : Result S} → Pass r → Pass (map_out (end_loop m) r)
      loop_pass m h = map_pass (end_loop m) (loop_passes l m) h

      mutual
        pass_s : (x : Stmt) → targets_s l x ≡ false → (s : State S) → Pass (run_s H (always H) rec f x s)
        pass_s (instruction i) e s = pass_i i s
        pass_s (scope x b) e s = tick_pass s _ (bind_pass (pass_b b e _) (λ t. leave_pass (rec x) t))
        pass_s (pruned x b) e s = tick_pass s _ (pass_b b e _)
        pass_s (terminal t m) e s = tick_pass s _ (inside_pass (mark_inside t m) (targets_t l t) e (λ q. pass_t t (mark m) q _))

        pass_t : (t : Term) (m : Option ℕ) → targets_t l t ≡ false → (s : State S) → Pass (run_t H (always H) rec f t m s)
        pass_t (break k i Implicit) m e s = normal_pass
        pass_t (break k i Labeled) m e s = record { pass = e }
        pass_t (break k i Unlabeled) m e s = record { pass = tt }
        pass_t (continue k i Implicit) m e s = normal_pass
        pass_t (continue k i Labeled) m e s = record { pass = tt }
        pass_t (continue k i Unlabeled) m e s = record { pass = tt }
        pass_t (return p i) m e s = record { pass = tt }
        pass_t (throw p i) m e s = record { pass = tt }
        pass_t (switch p cs i) m e s = bind_pass (select_pass _ cs 0 (default cs) s) (λ t. loop_pass m (pass_k cs e t.given t))
        pass_t (do_while b v i) m e s = loop_pass m (iter_pass (λ t. bind_pass (round_pass m (pass_b b e t)) (λ u. tested_pass v u (λ w. normal_pass))) f s)
        pass_t (while v b i) m e s = loop_pass m (iter_pass (λ t. tested_pass v t (λ u. round_pass m (pass_b b e u))) f s)
        pass_t (for a v u b i) m e s = bind_pass (pass_v a s) (λ t. loop_pass m (iter_pass (λ w. tested_pass v w (λ x. bind_pass (round_pass m (pass_b b e x)) (λ y. pass_u u y))) f t))
        pass_t (for_of a v b i n) m e s = bind_pass (pass_v a s) (λ t. loop_pass m (iter_pass (λ w. tested_pass v w (λ x. round_pass m (pass_b b e x))) f t))
        pass_t (for_in v b i n) m e s = loop_pass m (iter_pass (λ t. tested_pass v t (λ u. round_pass m (pass_b b e u))) f s)
        pass_t (if p b c i) m e s = test_pass 0 _ (λ u. pass_b b (or_left (targets_b l b) (targets_o l c) e) u) (λ u. pass_o c (or_right (targets_b l b) (targets_o l c) e) u)
        pass_t (label b i) m e s = pass_b b e s
        pass_t (try b p c i) m e s = handle_pass (pass_b b (or_left (targets_b l b) (targets_b l c) e) s) (λ v t. pass_b c (or_right (targets_b l b) (targets_b l c) e) _)

        pass_k : (cs : Cases) → targets_k l cs ≡ false → (n : ℕ) (s : State S) → Pass (run_from H (always H) rec f cs n s)
        pass_k knil e n s = normal_pass
        pass_k (kcons t b cs) e zero s = bind_pass (pass_o b (or_left (targets_o l b) (targets_k l cs) e) s) (λ u. pass_k cs (or_right (targets_o l b) (targets_k l cs) e) zero u)
        pass_k (kcons t b cs) e (suc n) s = pass_k cs (or_right (targets_o l b) (targets_k l cs) e) n s

        pass_o : (b : OptBlock) → targets_o l b ≡ false → (s : State S) → Pass (run_o H (always H) rec f b s)
        pass_o no_block e s = normal_pass
        pass_o (some_block b) e s = pass_b b e s

        pub pass_b : (b : Block) → targets_b l b ≡ false → (s : State S) → Pass (run_b H (always H) rec f b s)
        pass_b nil e s = normal_pass
        pass_b (cons x b) e s = bind_pass (pass_s x (or_left (targets_s l x) (targets_b l b) e) s) (λ t. pass_b b (or_right (targets_s l x) (targets_b l b) e) t)
