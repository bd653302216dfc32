-- Two runs of one tree from one state, under two step tests and two bounds on rounds.
-- What the combinators keep between the two results, every construct keeps: the one induction behind the laws of budgets, rounds and records.
use Rattle.std.proofs.Common.{◌≡◌, ℕ, zero, suc, Bool, true, false, List, [], ◌∷◌, Some, None, Option, refl, Ok, Err}
use Rattle.hir.specs.declared.place.Place.{Place}
use Rattle.hir.specs.declared.terminal.ReactiveTerminalTargetKind.TheVariants.{Implicit, Labeled, Unlabeled}
use Rattle.host.specs.Asked.{Asked, asked, Reply}
use Rattle.hir.specs.Tree.{Op, Val, operation, logical, conditional, sequence, optional, OptVal, no_val, some_val, Instr, instr, Instrs, inil, icons, Stmt, instruction, scope, pruned, terminal, Term, break, continue, return, throw, switch, do_while, while, for, for_of, for_in, if, label, try, Cases, knil, kcons, OptBlock, no_block, some_block, Block, nil, cons}
use Rattle.semantics.specs.Machine.{Meaning, State, Out, normal, broke, returned, threw, Result, done, stepped, recorded, gave, moved, wrote, at, all_at, store_all, assign, bind, handle, map_out, enter, leave, branch, on_reply, ask, test, ask_each, tick, iter}
use Rattle.semantics.specs.Targets.{mark, mark_inside}
use Rattle.semantics.specs.Exec.{Class, loads, declares, stores, asks_each, asks, class, end_loop, end_round, end_label, default, eval_op, eval_v, eval_i, eval_is, eval_o, select, tested, run_s, run_t, run_from, run_o, run_b}

-- a change of how a part ended that leaves a return a return
abbrev pub KeepsReturns : (Out → Out) → Type 0
KeepsReturns g = (v : ℕ) → g (returned v) ≡ returned v

module _ {S : Type 0} (H : Meaning S) (ok ok' : ℕ → Bool) (f f' : ℕ) where
  -- R n m d r: from a state with n steps and m returns by a record the first run gives d and the second r
  pub record Kept (R : ℕ → ℕ → Result S → Result S → Type 0) : Type 0 where
    pub ends : (o : Out) (t : State S) → R t.steps t.records (done o t) (done o t)
    pub records : (v : ℕ) (t : State S) → R t.steps t.records (done (returned v) (recorded t)) (done (returned v) (recorded t))
    pub begins : (s : State S) (k j : State S → Result S) → R (suc s.steps) s.records (k (stepped s)) (j (stepped s)) → R s.steps s.records (tick H ok s k) (tick H ok' s j)
    pub goes_on : {n m : ℕ} {d r : Result S} {k j : State S → Result S} → R n m d r → ((t : State S) → R t.steps t.records (k t) (j t)) → R n m (bind d k) (bind r j)
    pub catches : {n m : ℕ} {d r : Result S} {k j : ℕ → State S → Result S} → R n m d r → ((v : ℕ) (t : State S) → R t.steps t.records (k v t) (j v t)) → R n m (handle d k) (handle r j)
    pub turns : {n m : ℕ} {d r : Result S} (g : Out → Out) → KeepsReturns g → R n m d r → R n m (map_out g d) (map_out g r)
    pub loops : {k j : State S → Result S} → ((t : State S) → R t.steps t.records (k t) (j t)) → (s : State S) → R s.steps s.records (iter H ok k f s) (iter H ok' j f' s)

  module _ (R : ℕ → ℕ → Result S → Result S → Type 0) (K : Kept R) where
    abbrev From : State S → Result S → Result S → Type 0
    From s d r = R s.steps s.records d r

    splits : (b : Bool) (k k' j j' : State S → Result S) (s : State S) → From s (k s) (k' s) → From s (j s) (j' s) → From s (branch b k j s) (branch b k' j' s)
    unfolding branch
    splits true k k' j j' s p q = p
    splits false k k' j j' s p q = q

    asking : (kind payload position : ℕ) (vs : List ℕ) (s : State S) (k j : State S → Result S) → ((h : S) (v : ℕ) → From s (k (gave (moved s h) v)) (j (gave (moved s h) v))) → From s (ask H kind payload position vs s k) (ask H kind payload position vs s j)
    unfolding ask on_reply
    asking kind payload position vs s k j g = go (H.answer s.host q)
      where
        q : Asked
        q = asked (record { kind = kind; payload = payload; position = position }) vs

        go : (r : Reply) → From s (on_reply H r (moved s (H.next s.host q)) k) (on_reply H r (moved s (H.next s.host q)) j)
        go (Ok v) = g _ v
        go (Err t) = K.ends (threw t.0) (moved s (H.next s.host q))

    testing : (payload : ℕ) (y y' n n' : State S → Result S) → ((t : State S) → From t (y t) (y' t)) → ((t : State S) → From t (n t) (n' t)) → (s : State S) → From s (test H payload y n s) (test H payload y' n' s)
    testing payload y y' n n' p q s = asking 42 payload 0 _ s _ _ (λ h v. splits _ _ _ _ _ (gave (moved s h) v) (q _) (p _))

    leaving : (o : Option ℕ) (s : State S) → From s (leave o s) (leave o s)
    unfolding leave
    leaving None s = K.ends normal s
    leaving (Some i) s = splits _ _ _ _ _ s (K.ends normal s) (K.records _ s)

    entering : (o : Option ℕ) (s : State S) {d r : Result S} → From (enter o s) d r → From s d r
    unfolding enter
    entering None s h = h
    entering (Some i) s h = h

    assigning : (o : Option Place) (s : State S) {d r : Result S} → From (assign o s) d r → From s d r
    assigning None s h = h
    assigning (Some p) s h = h

    stored : (v : ℕ) (ps : List Place) (s : State S) {d r : Result S} → From (store_all s v ps) d r → From s d r
    stored v [] s h = h
    stored v (p ∷ ps) s h = stored v ps (wrote s p.identifier v) h

    each_alike : (kind payload : ℕ) (vs : List ℕ) (n : ℕ) (ps : List Place) (s : State S) → From s (ask_each H kind payload vs n ps s) (ask_each H kind payload vs n ps s)
    each_alike kind payload vs n [] s = K.ends normal s
    each_alike kind payload vs n (p ∷ ps) s = asking kind payload n vs s _ _ (λ h v. each_alike kind payload vs (suc n) ps (wrote (gave (moved s h) v) p.identifier v))

    op_alike : (c : Class) (o : Op) (s : State S) → From s (eval_op H c o s) (eval_op H c o s)
    op_alike loads o s = K.ends normal (gave s _)
    op_alike declares o s = stored 0 o.written s (K.ends normal (gave (store_all s 0 o.written) 0))
    op_alike stores o s = stored _ o.written s (K.ends normal (gave (store_all s _ o.written) _))
    op_alike asks_each o s = asking o.kind o.payload 0 _ s _ _ (λ h v. K.goes_on (each_alike o.kind o.payload (all_at s o.operands) 1 o.written (gave (moved s h) v)) (λ u. K.ends normal (gave u v)))
    op_alike asks o s = asking o.kind o.payload 0 _ s _ _ (λ h v. K.ends normal (gave (moved s h) v))

    mutual
      alike_v : (v : Val) (s : State S) → From s (eval_v H ok v s) (eval_v H ok' v s)
      alike_v (operation o) s = op_alike (class o.kind) o s
      alike_v (logical o a b) s = K.goes_on (alike_v a s) (λ t. testing _ _ _ _ _ (λ u. alike_v b u) (λ u. K.ends normal (gave u _)) t)
      alike_v (conditional c a b) s = K.goes_on (alike_v c s) (λ t. testing _ _ _ _ _ (λ u. alike_v a u) (λ u. alike_v b u) t)
      alike_v (sequence is i v) s = K.goes_on (alike_is is s) (λ t. alike_v v t)
      alike_v (optional v o) s = alike_v v s

      alike_i : (i : Instr) (s : State S) → From s (eval_i H ok i s) (eval_i H ok' i s)
      alike_i (instr i l v n) s = K.begins s _ _ (K.goes_on (alike_v v (stepped s)) (λ u. assigning l u (K.ends normal (assign l u))))

      alike_is : (is : Instrs) (s : State S) → From s (eval_is H ok is s) (eval_is H ok' is s)
      alike_is inil s = K.ends normal s
      alike_is (icons i is) s = K.goes_on (alike_i i s) (λ t. alike_is is t)

    alike_u : (u : OptVal) (s : State S) → From s (eval_o H ok u s) (eval_o H ok' u s)
    alike_u no_val s = K.ends normal s
    alike_u (some_val v) s = alike_v v s

    chosen : (v : ℕ) (cs : Cases) (n e : ℕ) (s : State S) → From s (select H ok v cs n e s) (select H ok' v cs n e s)
    chosen v knil n e s = K.ends normal (gave s e)
    chosen v (kcons None b cs) n e s = chosen v cs (suc n) e s
    chosen v (kcons (Some p) b cs) n e s = asking 43 0 0 _ s _ _ (λ h w. splits _ _ _ _ _ (gave (moved s h) w) (chosen v cs (suc n) e (gave (moved s h) w)) (K.ends normal (gave (gave (moved s h) w) n)))

    tested_alike : (v : Val) (y y' : State S → Result S) → ((t : State S) → From t (y t) (y' t)) → (s : State S) → From s (tested H ok v y s) (tested H ok' v y' s)
    tested_alike v y y' p s = K.goes_on (alike_v v s) (λ t. testing 0 _ _ _ _ p (λ u. K.ends (broke None) u) t)

    loop_returns : (m : Option ℕ) → KeepsReturns (end_loop m)
    loop_returns m v = refl

    round_returns : (m : Option ℕ) → KeepsReturns (end_round m)
    round_returns m v = refl

    label_returns : (m : Option ℕ) → KeepsReturns (end_label m)
    label_returns m v = refl

    module _ (rec : ℕ → Option ℕ) where
      mutual
        alike_s : (x : Stmt) (s : State S) → From s (run_s H ok rec f x s) (run_s H ok' rec f' x s)
        alike_s (instruction i) s = alike_i i s
        alike_s (scope x b) s = K.begins s _ _ (K.goes_on (entering (rec x) (stepped s) (alike_b b (enter (rec x) (stepped s)))) (λ u. leaving (rec x) u))
        alike_s (pruned x b) s = K.begins s _ _ (alike_b b (stepped s))
        alike_s (terminal t m) s = K.begins s _ _ (K.turns _ (label_returns (mark_inside t m)) (alike_t t (mark m) (stepped s)))

        alike_t : (x : Term) (m : Option ℕ) (s : State S) → From s (run_t H ok rec f x m s) (run_t H ok' rec f' x m s)
        alike_t (break l i Implicit) m s = K.ends _ s
        alike_t (break l i Unlabeled) m s = K.ends _ s
        alike_t (break l i Labeled) m s = K.ends _ s
        alike_t (continue l i Implicit) m s = K.ends _ s
        alike_t (continue l i Unlabeled) m s = K.ends _ s
        alike_t (continue l i Labeled) m s = K.ends _ s
        alike_t (return p i) m s = K.ends _ s
        alike_t (throw p i) m s = K.ends _ s
        alike_t (switch p cs i) m s = K.goes_on (chosen (at s p) cs 0 (default cs) s) (λ t. K.turns _ (loop_returns m) (alike_k cs t.given t))
        alike_t (do_while b v i) m s = K.turns _ (loop_returns m) (K.loops (λ t. K.goes_on (K.turns _ (round_returns m) (alike_b b t)) (λ u. tested_alike v _ _ (λ w. K.ends normal w) u)) s)
        alike_t (while v b i) m s = K.turns _ (loop_returns m) (K.loops (λ t. tested_alike v _ _ (λ u. K.turns _ (round_returns m) (alike_b b u)) t) s)
        alike_t (for a v u b i) m s = K.goes_on (alike_v a s) (λ t. K.turns _ (loop_returns m) (K.loops (λ w. tested_alike v _ _ (λ x. K.goes_on (K.turns _ (round_returns m) (alike_b b x)) (λ y. alike_u u y)) w) t))
        alike_t (for_of a v b i n) m s = K.goes_on (alike_v a s) (λ t. K.turns _ (loop_returns m) (K.loops (λ w. tested_alike v _ _ (λ x. K.turns _ (round_returns m) (alike_b b x)) w) t))
        alike_t (for_in v b i n) m s = K.turns _ (loop_returns m) (K.loops (λ t. tested_alike v _ _ (λ u. K.turns _ (round_returns m) (alike_b b u)) t) s)
        alike_t (if p b c i) m s = testing 0 _ _ _ _ (λ u. alike_b b u) (λ u. alike_o c u) (gave s (at s p))
        alike_t (label b i) m s = alike_b b s
        alike_t (try b p c i) m s = K.catches (alike_b b s) (λ v t. assigning p (gave t v) (alike_b c (assign p (gave t v))))

        alike_k : (cs : Cases) (n : ℕ) (s : State S) → From s (run_from H ok rec f cs n s) (run_from H ok' rec f' cs n s)
        alike_k knil n s = K.ends normal s
        alike_k (kcons t b cs) zero s = K.goes_on (alike_o b s) (λ u. alike_k cs zero u)
        alike_k (kcons t b cs) (suc n) s = alike_k cs n s

        alike_o : (b : OptBlock) (s : State S) → From s (run_o H ok rec f b s) (run_o H ok' rec f' b s)
        alike_o no_block s = K.ends normal s
        alike_o (some_block b) s = alike_b b s

        pub alike_b : (b : Block) (s : State S) → R s.steps s.records (run_b H ok rec f b s) (run_b H ok' rec f' b s)
        alike_b nil s = K.ends normal s
        alike_b (cons x b) s = K.goes_on (alike_s x s) (λ t. alike_b b t)
