-- No jump leaves a function: where jumps have their targets, or do nothing, each is taken inside.
-- What stands around a part says which jumps may come out of it; every construct takes those that mean it.
use Rattle.std.proofs.Common.{◌≡◌, ℕ, zero, suc, Bool, true, false, ◌||◌, eqb, List, [], ◌∷◌, Some, None, Option, refl, Ok, Err}
use borrow.Author.Tests.{clash}
use Rattle.hir.specs.declared.place.Place.{Place}
use Rattle.hir.specs.declared.terminal.ReactiveLabel.{ReactiveLabel}
use Rattle.hir.specs.declared.terminal.ReactiveTerminalTargetKind.{ReactiveTerminalTargetKind}
use Rattle.hir.specs.declared.terminal.ReactiveTerminalTargetKind.TheVariants.{Implicit, Labeled, Unlabeled}
use Rattle.host.specs.Asked.{Asked, asked, Reply}
use Rattle.hir.specs.Tree.{Op, Val, operation, logical, conditional, sequence, optional, OptVal, no_val, some_val, Instr, instr, Instrs, inil, icons, Stmt, instruction, scope, pruned, terminal, Term, break, continue, return, throw, switch, do_while, while, for, for_of, for_in, if, label, try, Cases, knil, kcons, OptBlock, no_block, some_block, Block, nil, cons}
use Rattle.semantics.specs.Machine.{Meaning, State, Out, normal, broke, continued, returned, threw, Result, done, spent, stepped, gave, moved, wrote, at, all_at, assign, bind, handle, map_out, enter, leave, branch, on_reply, ask, test, ask_each, tick, iter}
use Rattle.semantics.specs.Targets.{mark, mark_inside, Around, nowhere, has, labelled, in_switch, in_loop, or_implicit, aim_b, aim_o, aim_k, aim_t, aim_s}
use Rattle.semantics.specs.Exec.{Class, loads, declares, stores, asks_each, asks, class, when, has_label, end_loop, end_round, end_label, default, records_of, eval_op, eval_v, eval_i, eval_is, eval_o, select, tested, run_s, run_t, run_from, run_o, run_b, begin, within, exec}
use Rattle.semantics.specs.Laws.{NoJump, NoJumpLeaves}

-- a jump may leave a part if its target stands around it
abbrev Allowed : Around → Out → Type 0
Allowed a normal = Unit {0}
Allowed a (broke None) = a.breaks ≡ true
Allowed a (broke (Some l)) = has l a.labels ≡ true
Allowed a (continued None) = a.looped ≡ true
Allowed a (continued (Some l)) = has l a.loops ≡ true
Allowed a (returned v) = Unit {0}
Allowed a (threw v) = Unit {0}

module _ {S : Type 0} where
  abbrev StaysF : Around → Result S → Type 0
  StaysF a (done o t) = Allowed a o
  StaysF a (spent t) = Unit {0}

  record Stays (a : Around) (r : Result S) : Type 0 where
    stays : StaysF a r

  calm : {a : Around} (t : State S) → Stays a (done normal t)
  calm t = record { stays = tt }

  bind_stays : {a : Around} {r : Result S} {k : State S → Result S} → Stays a r → ((t : State S) → Stays a (k t)) → Stays a (bind r k)
  unfolding bind
  bind_stays {r = done normal t} h g = g t
  bind_stays {r = done (broke l) t} h g = record { stays = h.stays }
  bind_stays {r = done (continued l) t} h g = record { stays = h.stays }
  bind_stays {r = done (returned v) t} h g = record { stays = h.stays }
  bind_stays {r = done (threw v) t} h g = record { stays = h.stays }
  bind_stays {r = spent t} h g = record { stays = tt }

  handle_stays : {a : Around} {r : Result S} {k : ℕ → State S → Result S} → Stays a r → ((v : ℕ) (t : State S) → Stays a (k v t)) → Stays a (handle r k)
  unfolding handle
  handle_stays {r = done normal t} h g = record { stays = h.stays }
  handle_stays {r = done (broke l) t} h g = record { stays = h.stays }
  handle_stays {r = done (continued l) t} h g = record { stays = h.stays }
  handle_stays {r = done (returned v) t} h g = record { stays = h.stays }
  handle_stays {r = done (threw v) t} h g = g v t
  handle_stays {r = spent t} h g = record { stays = tt }

  map_stays : {a b : Around} {r : Result S} (g : Out → Out) → ((o : Out) → Allowed a o → Allowed b (g o)) → Stays a r → Stays b (map_out g r)
  unfolding map_out
  map_stays {r = done o t} g f h = record { stays = f o h.stays }
  map_stays {r = spent t} g f h = record { stays = tt }

  branch_stays : {a : Around} (b : Bool) (k j : State S → Result S) (s : State S) → Stays a (k s) → Stays a (j s) → Stays a (branch b k j s)
  unfolding branch
  branch_stays true k j s p q = p
  branch_stays false k j s p q = q

  leave_stays : {a : Around} (o : Option ℕ) (s : State S) → Stays a (leave o s)
  unfolding leave
  leave_stays None s = calm s
  leave_stays (Some i) s = branch_stays _ _ _ s (calm s) (record { stays = tt })

-- ---- what each construct takes
label_takes : (x : Option ℕ) (a : Around) (o : Out) → Allowed (labelled x a) o → Allowed a (end_label x o)
label_takes x a normal h = tt
label_takes x a (broke None) h = h
label_takes None a (broke (Some l)) h = h
label_takes (Some m) a (broke (Some l)) h = go (eqb l m) h
  where
    go : (b : Bool) → (b || has l a.labels) ≡ true → Allowed a (when b (broke (Some l)))
    go true h = tt
    go false h = h
label_takes x a (continued None) h = h
label_takes x a (continued (Some l)) h = h
label_takes x a (returned v) h = tt
label_takes x a (threw v) h = tt

loop_takes : (m : Option ℕ) (a : Around) (o : Out) → Allowed (in_switch a) o → Allowed a (end_loop m o)
loop_takes m a normal h = tt
loop_takes m a (broke None) h = tt
loop_takes m a (broke (Some l)) h = go (has_label l m)
  where
    go : (b : Bool) → Allowed a (when b (broke (Some l)))
    go true = tt
    go false = h
loop_takes m a (continued None) h = h
loop_takes m a (continued (Some l)) h = h
loop_takes m a (returned v) h = tt
loop_takes m a (threw v) h = tt

round_takes : (m : Option ℕ) (a : Around) (o : Out) → Allowed (in_loop m a) o → Allowed (in_switch a) (end_round m o)
round_takes m a normal h = tt
round_takes m a (broke None) h = refl
round_takes m a (broke (Some l)) h = h
round_takes m a (continued None) h = tt
round_takes None a (continued (Some l)) h = h
round_takes (Some m) a (continued (Some l)) h = go (eqb l m) h
  where
    go : (b : Bool) → (b || has l a.loops) ≡ true → Allowed (in_switch a) (when b (continued (Some l)))
    go true h = tt
    go false h = h
round_takes m a (returned v) h = tt
round_takes m a (threw v) h = tt

same_mark : (t : Term) (x : Option ℕ) (a : Around) (m : Option ReactiveLabel) → mark_inside (aim_t t x a) m ≡ mark_inside t m
same_mark (break l i k) x a m = refl
same_mark (continue l i k) x a m = refl
same_mark (return p i) x a m = refl
same_mark (throw p i) x a m = refl
same_mark (switch p cs i) x a m = refl
same_mark (do_while b v i) x a m = refl
same_mark (while v b i) x a m = refl
same_mark (for n v u b i) x a m = refl
same_mark (for_of n v b i s) x a m = refl
same_mark (for_in v b i s) x a m = refl
same_mark (if p b c i) x a m = refl
same_mark (label b i) x a m = refl
same_mark (try b p c i) x a m = refl

module _ {S : Type 0} (H : Meaning S) where
  ask_stays : {a : Around} (kind payload position : ℕ) (vs : List ℕ) (s : State S) (k : State S → Result S) → ((t : State S) → Stays a (k t)) → Stays a (ask H kind payload position vs s k)
  unfolding ask on_reply
  ask_stays {a} kind payload position vs s k g = go (H.answer s.host q)
    where
      q : Asked
      q = asked (record { kind = kind; payload = payload; position = position }) vs

      go : (r : Reply) → Stays a (on_reply H r (moved s (H.next s.host q)) k)
      go (Ok v) = g _
      go (Err t) = record { stays = tt }

  test_stays : {a : Around} (payload : ℕ) (y n : State S → Result S) → ((t : State S) → Stays a (y t)) → ((t : State S) → Stays a (n t)) → (s : State S) → Stays a (test H payload y n s)
  test_stays payload y n p q s = ask_stays 42 payload 0 _ s _ (λ t. branch_stays _ _ _ t (q t) (p t))

  each_stays : {a : Around} (kind payload : ℕ) (vs : List ℕ) (n : ℕ) (ps : List Place) (s : State S) → Stays a (ask_each H kind payload vs n ps s)
  each_stays kind payload vs n [] s = calm s
  each_stays kind payload vs n (p ∷ ps) s = ask_stays kind payload n vs s _ (λ t. each_stays kind payload vs (suc n) ps (wrote t p.identifier t.given))

  op_stays : {a : Around} (c : Class) (o : Op) (s : State S) → Stays a (eval_op H c o s)
  op_stays loads o s = calm _
  op_stays declares o s = calm _
  op_stays stores o s = calm _
  op_stays asks_each o s = ask_stays o.kind o.payload 0 _ s _ (λ t. bind_stays (each_stays o.kind o.payload (all_at s o.operands) 1 o.written t) (λ u. calm _))
  op_stays asks o s = ask_stays o.kind o.payload 0 _ s _ (λ t. calm t)

  module _ (ok : ℕ → Bool) where
    tick_stays : {a : Around} (s : State S) (k : State S → Result S) → Stays a (k (stepped s)) → Stays a (tick H ok s k)
    unfolding tick
    tick_stays s k h = branch_stays _ _ _ s h (record { stays = tt })

    iter_stays : {a : Around} (k : State S → Result S) → ((t : State S) → Stays a (k t)) → (x : ℕ) (s : State S) → Stays a (iter H ok k x s)
    unfolding iter
    iter_stays k g zero s = record { stays = tt }
    iter_stays k g (suc x) s = tick_stays s _ (bind_stays (g (stepped s)) (λ u. iter_stays k g x u))

    mutual
      stays_v : {a : Around} (v : Val) (s : State S) → Stays a (eval_v H ok v s)
      stays_v (operation o) s = op_stays (class o.kind) o s
      stays_v (logical o v w) s = bind_stays (stays_v v s) (λ t. test_stays _ _ _ (λ u. stays_v w u) (λ u. calm _) t)
      stays_v (conditional c v w) s = bind_stays (stays_v c s) (λ t. test_stays _ _ _ (λ u. stays_v v u) (λ u. stays_v w u) t)
      stays_v (sequence is i v) s = bind_stays (stays_is is s) (λ t. stays_v v t)
      stays_v (optional v o) s = stays_v v s

      stays_i : {a : Around} (i : Instr) (s : State S) → Stays a (eval_i H ok i s)
      stays_i (instr i l v n) s = tick_stays s _ (bind_stays (stays_v v (stepped s)) (λ u. calm _))

      stays_is : {a : Around} (is : Instrs) (s : State S) → Stays a (eval_is H ok is s)
      stays_is inil s = calm s
      stays_is (icons i is) s = bind_stays (stays_i i s) (λ t. stays_is is t)

    stays_u : {a : Around} (u : OptVal) (s : State S) → Stays a (eval_o H ok u s)
    stays_u no_val s = calm s
    stays_u (some_val v) s = stays_v v s

    chosen_stays : {a : Around} (v : ℕ) (cs : Cases) (n e : ℕ) (s : State S) → Stays a (select H ok v cs n e s)
    chosen_stays v knil n e s = calm _
    chosen_stays v (kcons None b cs) n e s = chosen_stays v cs (suc n) e s
    chosen_stays v (kcons (Some p) b cs) n e s = ask_stays 43 0 0 _ s _ (λ t. branch_stays _ _ _ t (chosen_stays v cs (suc n) e t) (calm _))

    -- a loop's test breaks off
    tested_stays : (a : Around) (v : Val) (y : State S → Result S) → ((t : State S) → Stays (in_switch a) (y t)) → (s : State S) → Stays (in_switch a) (tested H ok v y s)
    tested_stays a v y p s = bind_stays (stays_v v s) (λ t. test_stays 0 _ _ p (λ u. record { stays = refl }) t)

    module _ (rec : ℕ → Option ℕ) (f : ℕ) where
      break_stays : (l i : ℕ) (k : ReactiveTerminalTargetKind) (m : Option ℕ) (a : Around) (s : State S) → Stays a (run_t H ok rec f (aim_t (break l i k) m a) m s)
      break_stays l i Implicit m a s = calm s
      break_stays l i Unlabeled m a s = go a.breaks refl
        where
          go : (b : Bool) → a.breaks ≡ b → Stays a (run_t H ok rec f (break l i (or_implicit b Unlabeled)) m s)
          go true e = record { stays = e }
          go false e = calm s
      break_stays l i Labeled m a s = go (has l a.labels) refl
        where
          go : (b : Bool) → has l a.labels ≡ b → Stays a (run_t H ok rec f (break l i (or_implicit b Labeled)) m s)
          go true e = record { stays = e }
          go false e = calm s

      continue_stays : (l i : ℕ) (k : ReactiveTerminalTargetKind) (m : Option ℕ) (a : Around) (s : State S) → Stays a (run_t H ok rec f (aim_t (continue l i k) m a) m s)
      continue_stays l i Implicit m a s = calm s
      continue_stays l i Unlabeled m a s = go a.looped refl
        where
          go : (b : Bool) → a.looped ≡ b → Stays a (run_t H ok rec f (continue l i (or_implicit b Unlabeled)) m s)
          go true e = record { stays = e }
          go false e = calm s
      continue_stays l i Labeled m a s = go (has l a.loops) refl
        where
          go : (b : Bool) → has l a.loops ≡ b → Stays a (run_t H ok rec f (continue l i (or_implicit b Labeled)) m s)
          go true e = record { stays = e }
          go false e = calm s

      mutual
        stays_s : (x : Stmt) (a : Around) (s : State S) → Stays a (run_s H ok rec f (aim_s x a) s)
        stays_s (instruction i) a s = stays_i i s
        stays_s (scope x b) a s = tick_stays s _ (bind_stays (stays_b b a (enter (rec x) (stepped s))) (λ u. leave_stays (rec x) u))
        stays_s (pruned x b) a s = tick_stays s _ (stays_b b a (stepped s))
        stays_s (terminal t m) a s = tick_stays s _ (rw (same_mark t (mark m) (labelled (mark_inside t m) a) m) (map_stays _ (label_takes (mark_inside t m) a) (stays_t t (mark m) (labelled (mark_inside t m) a) (stepped s))))

        stays_t : (x : Term) (m : Option ℕ) (a : Around) (s : State S) → Stays a (run_t H ok rec f (aim_t x m a) m s)
        stays_t (break l i k) m a s = break_stays l i k m a s
        stays_t (continue l i k) m a s = continue_stays l i k m a s
        stays_t (return p i) m a s = record { stays = tt }
        stays_t (throw p i) m a s = record { stays = tt }
        stays_t (switch p cs i) m a s = bind_stays (chosen_stays (at s p) (aim_k cs (in_switch a)) 0 (default (aim_k cs (in_switch a))) s) (λ t. map_stays (end_loop m) (loop_takes m a) (stays_k cs (in_switch a) t.given t))
        stays_t (do_while b v i) m a s = map_stays _ (loop_takes m a) (iter_stays _ (λ t. bind_stays (map_stays _ (round_takes m a) (stays_b b (in_loop m a) t)) (λ u. tested_stays a v _ (λ w. calm w) u)) f s)
        stays_t (while v b i) m a s = map_stays _ (loop_takes m a) (iter_stays _ (λ t. tested_stays a v _ (λ u. map_stays _ (round_takes m a) (stays_b b (in_loop m a) u)) t) f s)
        stays_t (for n v u b i) m a s = bind_stays (stays_v n s) (λ t. map_stays _ (loop_takes m a) (iter_stays _ (λ w. tested_stays a v _ (λ x. bind_stays (map_stays _ (round_takes m a) (stays_b b (in_loop m a) x)) (λ y. stays_u u y)) w) f t))
        stays_t (for_of n v b i c) m a s = bind_stays (stays_v n s) (λ t. map_stays _ (loop_takes m a) (iter_stays _ (λ w. tested_stays a v _ (λ x. map_stays _ (round_takes m a) (stays_b b (in_loop m a) x)) w) f t))
        stays_t (for_in v b i c) m a s = map_stays _ (loop_takes m a) (iter_stays _ (λ t. tested_stays a v _ (λ u. map_stays _ (round_takes m a) (stays_b b (in_loop m a) u)) t) f s)
        stays_t (if p b c i) m a s = test_stays 0 _ _ (λ u. stays_b b a u) (λ u. stays_o c a u) (gave s (at s p))
        stays_t (label b i) m a s = stays_b b a s
        stays_t (try b p c i) m a s = handle_stays (stays_b b a s) (λ v t. stays_b c a (assign p (gave t v)))

        stays_k : (cs : Cases) (a : Around) (n : ℕ) (s : State S) → Stays a (run_from H ok rec f (aim_k cs a) n s)
        stays_k knil a n s = calm s
        stays_k (kcons t b cs) a zero s = bind_stays (stays_o b a s) (λ u. stays_k cs a zero u)
        stays_k (kcons t b cs) a (suc n) s = stays_k cs a n s

        stays_o : (b : OptBlock) (a : Around) (s : State S) → Stays a (run_o H ok rec f (aim_o b a) s)
        stays_o no_block a s = calm s
        stays_o (some_block b) a s = stays_b b a s

        stays_b : (b : Block) (a : Around) (s : State S) → Stays a (run_b H ok rec f (aim_b b a) s)
        stays_b nil a s = calm s
        stays_b (cons x b) a s = bind_stays (stays_s x a s) (λ t. stays_b b a t)

none_out : {S : Type 0} (r : Result S) → Stays nowhere r → NoJump r
none_out (done normal t) h = tt
none_out (done (broke None) t) h = clash h.stays
none_out (done (broke (Some l)) t) h = clash h.stays
none_out (done (continued None) t) h = clash h.stays
none_out (done (continued (Some l)) t) h = clash h.stays
none_out (done (returned v) t) h = tt
none_out (done (threw v) t) h = tt
none_out (spent t) h = tt

pub no_jump_leaves : {S : Type 0} → NoJumpLeaves S
unfolding exec
no_jump_leaves H F h σ B = none_out _ (stays_b H (within H B) (records_of F.scopes) (suc B) F.body nowhere (begin H h σ))
