-- Where no scope has a record, a run enters no recorded scope, and no record returns.
-- So the counts of a run stay as they were at its beginning.
use Rattle.std.proofs.Common.{◌≡◌, ℕ, zero, suc, Bool, true, false, List, [], ◌∷◌, Some, None, Option, refl, ap, ◌∙◌, arith, Ok, Err}
use Rattle.hir.specs.declared.place.Place.{Place}
use Rattle.hir.specs.declared.terminal.ReactiveTerminalTargetKind.TheVariants.{Implicit, Labeled, Unlabeled}
use Rattle.hir.specs.Tree.{Op, Val, operation, logical, conditional, sequence, optional, OptVal, no_val, some_val, Instr, instr, Instrs, inil, icons, Stmt, instruction, scope, pruned, terminal, Term, break, continue, return, throw, switch, do_while, while, for, for_of, for_in, if, label, try, Cases, knil, kcons, OptBlock, no_block, some_block, Block, nil, cons, ScopeInfo, Function}
use Rattle.host.specs.Asked.{asked, Reply}
use Rattle.semantics.specs.Machine.{Meaning, State, Out, normal, broke, continued, returned, threw, Result, done, spent, stepped, moved, gave, at, last_at, store_all, assign, wrote, branch, bind, handle, map_out, enter, leave, on_reply, ask, test, ask_each, tick, iter}
use Rattle.semantics.specs.Targets.{mark, nowhere, aim_b}
use Rattle.semantics.specs.Exec.{Class, loads, declares, stores, asks_each, asks, class, default, recorded_place, records_of, eval_op, eval_v, eval_i, eval_is, eval_o, select, tested, run_s, run_t, run_from, run_o, run_b, begin, within, exec, last}
use Rattle.simulation.specs.WellFormed.{All}

module _ {S : Type 0} where
  -- the counts are n and m
  pub record Even (n m : ℕ) (t : State S) : Type 0 where
    pub entries_same : t.entries ≡ n
    pub records_same : t.records ≡ m

  -- of a result
  record Evenly (n m : ℕ) (r : Result S) : Type 0 where
    even : Even n m (last r)

  abbrev itself : (s : State S) → Even s.entries s.records s
  itself s = record { entries_same = refl; records_same = refl }

  ends : (o : Out) (s : State S) → Evenly s.entries s.records (done o s)
  ends o s = record { even = itself s }

  further : {n m : ℕ} {t : State S} {r : Result S} → Even n m t → Evenly t.entries t.records r → Evenly n m r
  further h g = record { even = record { entries_same = g.even.entries_same ∙ h.entries_same; records_same = g.even.records_same ∙ h.records_same } }

  bind_even : {n m : ℕ} {r : Result S} {k : State S → Result S} → Evenly n m r → ((t : State S) → Evenly t.entries t.records (k t)) → Evenly n m (bind r k)
  unfolding bind
  bind_even {r = done normal t} h g = further h.even (g t)
  bind_even {r = done (broke m) t} h g = record { even = h.even }
  bind_even {r = done (continued m) t} h g = record { even = h.even }
  bind_even {r = done (returned m) t} h g = record { even = h.even }
  bind_even {r = done (threw m) t} h g = record { even = h.even }
  bind_even {r = spent t} h g = record { even = h.even }

  handle_even : {n m : ℕ} {r : Result S} {k : ℕ → State S → Result S} → Evenly n m r → ((v : ℕ) (t : State S) → Evenly t.entries t.records (k v t)) → Evenly n m (handle r k)
  unfolding handle
  handle_even {r = done normal t} h g = record { even = h.even }
  handle_even {r = done (broke m) t} h g = record { even = h.even }
  handle_even {r = done (continued m) t} h g = record { even = h.even }
  handle_even {r = done (returned m) t} h g = record { even = h.even }
  handle_even {r = done (threw v) t} h g = further h.even (g v t)
  handle_even {r = spent t} h g = record { even = h.even }

  map_even : {n m : ℕ} {r : Result S} (g : Out → Out) → Evenly n m r → Evenly n m (map_out g r)
  unfolding map_out
  map_even {r = done o t} g h = record { even = h.even }
  map_even {r = spent t} g h = record { even = h.even }

  branch_even : {n m : ℕ} (b : Bool) (f g : State S → Result S) (t : State S) → Evenly n m (f t) → Evenly n m (g t) → Evenly n m (branch b f g t)
  unfolding branch
  branch_even true f g t p q = p
  branch_even false f g t p q = q

  assigned : (o : Option Place) (s : State S) → Even s.entries s.records (assign o s)
  assigned None s = itself s
  assigned (Some p) s = record { entries_same = refl; records_same = refl }

  stored : (ps : List Place) (v : ℕ) (s : State S) → Even s.entries s.records (store_all s v ps)
  stored [] v s = itself s
  stored (p ∷ ps) v s = stored ps v (wrote s p.identifier v)

  module _ (H : Meaning S) where
    ask_even : (kind payload position : ℕ) (vs : List ℕ) (s : State S) {k : State S → Result S} → ((t : State S) → Evenly t.entries t.records (k t)) → Evenly s.entries s.records (ask H kind payload position vs s k)
    unfolding ask on_reply
    ask_even kind payload position vs s {k} g = go (H.answer s.host _)
      where
        go : (r : Reply) → Evenly s.entries s.records (on_reply H r (moved s (H.next s.host (asked (record { kind = kind; payload = payload; position = position }) vs))) k)
        go (Ok v) = record { even = (g _).even }
        go (Err t) = record { even = record { entries_same = refl; records_same = refl } }

    test_even : (payload : ℕ) {y n : State S → Result S} (s : State S) → ((t : State S) → Evenly t.entries t.records (y t)) → ((t : State S) → Evenly t.entries t.records (n t)) → Evenly s.entries s.records (test H payload y n s)
    test_even payload s f g = ask_even 42 payload 0 _ s (λ t. branch_even _ _ _ t (g t) (f t))

    each_even : (kind payload : ℕ) (vs : List ℕ) (n : ℕ) (ps : List Place) (s : State S) → Evenly s.entries s.records (ask_each H kind payload vs n ps s)
    each_even kind payload vs n [] s = ends normal s
    each_even kind payload vs n (p ∷ ps) s = ask_even kind payload n vs s (λ t. record { even = (each_even kind payload vs (suc n) ps (wrote t p.identifier t.given)).even })

    op_even : (c : Class) (o : Op) (s : State S) → Evenly s.entries s.records (eval_op H c o s)
    op_even loads o s = record { even = record { entries_same = refl; records_same = refl } }
    op_even declares o s = let h = stored o.written 0 s in record { even = record { entries_same = h.entries_same; records_same = h.records_same } }
    op_even stores o s = let h = stored o.written (last_at s 0 o.operands) s in record { even = record { entries_same = h.entries_same; records_same = h.records_same } }
    op_even asks_each o s = ask_even _ _ 0 _ s (λ t. bind_even (each_even _ _ _ 1 o.written t) (λ u. record { even = record { entries_same = refl; records_same = refl } }))
    op_even asks o s = ask_even _ _ 0 _ s (λ t. ends normal t)

    module _ (ok : ℕ → Bool) where
      tick_even : (s : State S) (k : State S → Result S) → Evenly s.entries s.records (k (stepped s)) → Evenly s.entries s.records (tick H ok s k)
      unfolding tick
      tick_even s k h = branch_even (ok s.steps) (λ t. k (stepped t)) spent s (record { even = h.even }) (record { even = record { entries_same = refl; records_same = refl } })

      iter_even : {round : State S → Result S} → ((t : State S) → Evenly t.entries t.records (round t)) → (f : ℕ) (s : State S) → Evenly s.entries s.records (iter H ok round f s)
      unfolding iter
      iter_even g zero s = record { even = record { entries_same = refl; records_same = refl } }
      iter_even g (suc f) s = tick_even s _ (bind_even (g _) (λ u. iter_even g f u))

      mutual
        even_v : (v : Val) (s : State S) → Evenly s.entries s.records (eval_v H ok v s)
        even_v (operation o) s = op_even (class o.kind) o s
        even_v (logical o a b) s = bind_even (even_v a s) (λ t. test_even _ t (λ u. even_v b u) (λ u. record { even = record { entries_same = refl; records_same = refl } }))
        even_v (conditional c a b) s = bind_even (even_v c s) (λ t. test_even 0 t (λ u. even_v a u) (λ u. even_v b u))
        even_v (sequence is i v) s = bind_even (even_is is s) (λ t. even_v v t)
        even_v (optional v o) s = even_v v s

        even_i : (i : Instr) (s : State S) → Evenly s.entries s.records (eval_i H ok i s)
        even_i (instr i d v n) s = tick_even s _ (bind_even (even_v v _) (λ u. record { even = assigned d u }))

        even_is : (is : Instrs) (s : State S) → Evenly s.entries s.records (eval_is H ok is s)
        even_is inil s = ends normal s
        even_is (icons i is) s = bind_even (even_i i s) (λ t. even_is is t)

      even_u : (u : OptVal) (s : State S) → Evenly s.entries s.records (eval_o H ok u s)
      even_u no_val s = ends normal s
      even_u (some_val v) s = even_v v s

      select_even : (v : ℕ) (cs : Cases) (n e : ℕ) (s : State S) → Evenly s.entries s.records (select H ok v cs n e s)
      select_even v knil n e s = record { even = record { entries_same = refl; records_same = refl } }
      select_even v (kcons None b cs) n e s = select_even v cs (suc n) e s
      select_even v (kcons (Some p) b cs) n e s = ask_even 43 0 0 _ s (λ t. branch_even _ _ _ t (select_even v cs (suc n) e t) (record { even = record { entries_same = refl; records_same = refl } }))

      tested_even : (v : Val) {y : State S → Result S} (s : State S) → ((t : State S) → Evenly t.entries t.records (y t)) → Evenly s.entries s.records (tested H ok v y s)
      tested_even v s f = bind_even (even_v v s) (λ t. test_even 0 t f (λ u. ends (broke None) u))

      module _ (rec : ℕ → Option ℕ) (f : ℕ) (none : (x : ℕ) → rec x ≡ None) where
        entered_even : (o : Option ℕ) → o ≡ None → (s : State S) → Even s.entries s.records (enter o s)
        unfolding enter
        entered_even None e s = itself s
        entered_even (Some p) e s = let z : ◌≡◌ {A = ℕ} 0 1 = cc in absurd (omega arith)

        left_even : (o : Option ℕ) → o ≡ None → (s : State S) → Evenly s.entries s.records (leave o s)
        unfolding leave
        left_even None e s = ends normal s
        left_even (Some p) e s = let z : ◌≡◌ {A = ℕ} 0 1 = cc in absurd (omega arith)

        mutual
          even_s : (x : Stmt) (s : State S) → Evenly s.entries s.records (run_s H ok rec f x s)
          even_s (instruction i) s = even_i i s
          even_s (scope x b) s = tick_even s _ (bind_even (further (entered_even (rec x) (none x) (stepped s)) (even_b b _)) (λ u. left_even (rec x) (none x) u))
          even_s (pruned x b) s = tick_even s _ (even_b b _)
          even_s (terminal t m) s = tick_even s _ (map_even _ (even_t t (mark m) _))

          even_t : (t : Term) (m : Option ℕ) (s : State S) → Evenly s.entries s.records (run_t H ok rec f t m s)
          even_t (break k i Implicit) m s = ends normal s
          even_t (break k i Labeled) m s = ends _ s
          even_t (break k i Unlabeled) m s = ends _ s
          even_t (continue k i Implicit) m s = ends normal s
          even_t (continue k i Labeled) m s = ends _ s
          even_t (continue k i Unlabeled) m s = ends _ s
          even_t (return p i) m s = ends _ s
          even_t (throw p i) m s = ends _ s
          even_t (switch p cs i) m s = bind_even (select_even _ cs 0 (default cs) s) (λ t. map_even _ (even_k cs t.given t))
          even_t (do_while b v i) m s = map_even _ (iter_even (λ t. bind_even (map_even _ (even_b b t)) (λ u. tested_even v u (λ w. ends normal w))) f s)
          even_t (while v b i) m s = map_even _ (iter_even (λ t. tested_even v t (λ u. map_even _ (even_b b u))) f s)
          even_t (for a v u b i) m s = bind_even (even_v a s) (λ t. map_even _ (iter_even (λ w. tested_even v w (λ x. bind_even (map_even _ (even_b b x)) (λ y. even_u u y))) f t))
          even_t (for_of a v b i n) m s = bind_even (even_v a s) (λ t. map_even _ (iter_even (λ w. tested_even v w (λ x. map_even _ (even_b b x))) f t))
          even_t (for_in v b i n) m s = map_even _ (iter_even (λ t. tested_even v t (λ u. map_even _ (even_b b u))) f s)
          even_t (if p b c i) m s = record { even = (test_even 0 (gave s (at s p)) (λ u. even_b b u) (λ u. even_o c u)).even }
          even_t (label b i) m s = even_b b s
          even_t (try b p c i) m s = handle_even (even_b b s) (λ v t. further (assigned p (gave t v)) (even_b c _))

          even_k : (cs : Cases) (n : ℕ) (s : State S) → Evenly s.entries s.records (run_from H ok rec f cs n s)
          even_k knil n s = ends normal s
          even_k (kcons t b cs) zero s = bind_even (even_o b s) (λ u. even_k cs zero u)
          even_k (kcons t b cs) (suc n) s = even_k cs n s

          even_o : (b : OptBlock) (s : State S) → Evenly s.entries s.records (run_o H ok rec f b s)
          even_o no_block s = ends normal s
          even_o (some_block b) s = even_b b s

          even_b : (b : Block) (s : State S) → Evenly s.entries s.records (run_b H ok rec f b s)
          even_b nil s = ends normal s
          even_b (cons x b) s = bind_even (even_s x s) (λ t. even_b b t)

none_recorded : (ss : List ScopeInfo) → All (λ s. s.early ≡ None) ss → (x : ℕ) → records_of ss x ≡ None
unfolding records_of
none_recorded [] h x = refl
none_recorded (s ∷ ss) h zero = ap recorded_place h.0
none_recorded (s ∷ ss) h (suc x) = none_recorded ss h.1 x

pub unrecorded : {S : Type 0} (H : Meaning S) (F : Function) (B : ℕ) (h : S) (σ : List ℕ) → All (λ s. s.early ≡ None) F.scopes → Even 0 0 (last (exec H F B h σ))
unfolding exec
unrecorded H F B h σ n = (even_b H (within H B) (records_of F.scopes) (suc B) (none_recorded F.scopes n) (aim_b F.body nowhere) (begin H h σ)).even
