-- A run from a longer store is the run from the shorter one with the rest behind it.
-- States are compared by `widen`; what is read and written lies below N, and the store keeps its length.
use Rattle.std.proofs.Common.{◌≡◌, ℕ, zero, suc, ◌<◌, ◌≤◌, Bool, true, false, eqb, List, [], ◌∷◌, ◌++◌, length, Some, None, Option, refl, ◌∙◌, arith, length-set, Ok, Err}
use lib.ListN.{get_or-append}
use lib.Seq.{set-append_left}
use Rattle.hir.specs.declared.place.Place.{Place}
use Rattle.hir.specs.declared.terminal.ReactiveTerminalTargetKind.{ReactiveTerminalTargetKind}
use Rattle.hir.specs.declared.terminal.ReactiveTerminalTargetKind.TheVariants.{Implicit, Labeled, Unlabeled}
use Rattle.host.specs.Asked.{Asked, asked, Reply}
use Rattle.hir.specs.Tree.{Op, Val, operation, logical, conditional, sequence, optional, OptVal, no_val, some_val, Instr, instr, Instrs, inil, icons, Stmt, instruction, scope, pruned, terminal, Term, break, continue, return, throw, switch, do_while, while, for, for_of, for_in, if, label, try, Cases, knil, kcons, OptBlock, no_block, some_block, Block, nil, cons, ScopeInfo}
use Rattle.semantics.specs.Machine.{Meaning, State, Out, normal, broke, continued, returned, threw, Result, done, spent, stepped, recorded, gave, moved, wrote, at, all_at, last_at, store_all, assign, bind, handle, map_out, enter, leave, branch, on_reply, ask, test, ask_each, tick, iter, look, put}
use Rattle.semantics.specs.Targets.{mark, mark_inside, Around, nowhere, labelled, in_switch, in_loop, aim_b, aim_o, aim_k, aim_t, aim_s}
use Rattle.semantics.specs.Exec.{Class, loads, declares, stores, asks_each, asks, class, records_of, eval_op, eval_v, eval_i, eval_is, eval_o, select, tested, run_s, run_t, run_from, run_o, run_b, begin, within, exec, last}
use Rattle.semantics.specs.Below.{BelowPs, BelowP, BelowN, BelowV, BelowI, BelowIs, BelowU, BelowS, BelowT, BelowK, BelowO, BelowB, BelowR, widen, widened, OnlyTable}

look_left : (σ τ : List ℕ) (i : ℕ) → i < length σ → look (σ ++ τ) i ≡ look σ i
unfolding look
look_left σ τ i h = get_or-append σ τ 0 i h

put_left : (σ τ : List ℕ) (i v : ℕ) → i < length σ → put (σ ++ τ) i v ≡ put σ i v ++ τ
unfolding put
put_left σ τ i v h = set-append_left σ τ i v h

put_long : (σ : List ℕ) (i v : ℕ) → length (put σ i v) ≡ length σ
unfolding put
put_long σ i v = length-set σ i v

-- L: the length of the shorter store, which has a place for every identifier below N
module _ {S : Type 0} (τ : List ℕ) (N L : ℕ) (NL : N ≤ L) where
  abbrev Long : State S → Type 0
  Long s = length s.store ≡ L

  -- d from the shorter store, r from the longer one
  record Wide (d r : Result S) : Type 0 where
    same : r ≡ widened τ d
    long : Long (last d)

  in_store : (s : State S) {i : ℕ} → Long s → i < N → i < length s.store
  in_store s h i = omega arith

  at_wide : (s : State S) → Long s → (p : Place) → p.identifier < N → at (widen τ s) p ≡ at s p
  at_wide s h p i = look_left s.store τ p.identifier (in_store s h i)

  all_wide : (s : State S) → Long s → (ps : List Place) → BelowPs N ps → all_at (widen τ s) ps ≡ all_at s ps
  all_wide s h [] b = refl
  all_wide s h (p ∷ ps) b = rw (at_wide s h p b.0, all_wide s h ps b.1)

  last_wide : (s : State S) → Long s → (v : ℕ) (ps : List Place) → BelowPs N ps → last_at (widen τ s) v ps ≡ last_at s v ps
  last_wide s h v [] b = refl
  last_wide s h v (p ∷ ps) b = rw (at_wide s h p b.0) (last_wide s h (at s p) ps b.1)

  wrote_wide : (s : State S) → Long s → (i v : ℕ) → i < N → wrote (widen τ s) i v ≡ widen τ (wrote s i v)
  wrote_wide s h i v b = rw (put_left s.store τ i v (in_store s h b))

  wrote_long : (s : State S) → Long s → (i v : ℕ) → Long (wrote s i v)
  wrote_long s h i v = put_long s.store i v ∙ h

  store_wide : (s : State S) → Long s → (v : ℕ) (ps : List Place) → BelowPs N ps → store_all (widen τ s) v ps ≡ widen τ (store_all s v ps)
  store_wide s h v [] b = refl
  store_wide s h v (p ∷ ps) b = rw (wrote_wide s h p.identifier v b.0) (store_wide (wrote s p.identifier v) (wrote_long s h p.identifier v) v ps b.1)

  store_long : (s : State S) → Long s → (v : ℕ) (ps : List Place) → Long (store_all s v ps)
  store_long s h v [] = h
  store_long s h v (p ∷ ps) = store_long (wrote s p.identifier v) (wrote_long s h p.identifier v) v ps

  assign_wide : (p : Option Place) (s : State S) → Long s → BelowP N p → assign p (widen τ s) ≡ widen τ (assign p s)
  assign_wide None s h b = refl
  assign_wide (Some p) s h b = wrote_wide s h p.identifier s.given b

  assign_long : (p : Option Place) (s : State S) → Long s → Long (assign p s)
  assign_long None s h = h
  assign_long (Some p) s h = wrote_long s h p.identifier s.given

  -- ---- the combinators
  abbrev Carries : (State S → Result S) → (State S → Result S) → Type 0
  Carries k j = (t : State S) → Long t → Wide (k t) (j (widen τ t))

  end_wide : (o : Out) (t : State S) → Long t → Wide (done o t) (done o (widen τ t))
  end_wide o t h = record { same = refl; long = h }

  bind_wide : {d r : Result S} (k j : State S → Result S) → Wide d r → Carries k j → Wide (bind d k) (bind r j)
  unfolding bind
  bind_wide {d = done normal t} k j h g = rw h.same (g t h.long)
  bind_wide {d = done (broke l) t} k j h g = rw h.same (end_wide _ t h.long)
  bind_wide {d = done (continued l) t} k j h g = rw h.same (end_wide _ t h.long)
  bind_wide {d = done (returned v) t} k j h g = rw h.same (end_wide _ t h.long)
  bind_wide {d = done (threw v) t} k j h g = rw h.same (end_wide _ t h.long)
  bind_wide {d = spent t} k j h g = rw h.same (record { same = refl; long = h.long })

  handle_wide : {d r : Result S} (k j : ℕ → State S → Result S) → Wide d r → ((v : ℕ) → Carries (k v) (j v)) → Wide (handle d k) (handle r j)
  unfolding handle
  handle_wide {d = done normal t} k j h g = rw h.same (end_wide _ t h.long)
  handle_wide {d = done (broke l) t} k j h g = rw h.same (end_wide _ t h.long)
  handle_wide {d = done (continued l) t} k j h g = rw h.same (end_wide _ t h.long)
  handle_wide {d = done (returned v) t} k j h g = rw h.same (end_wide _ t h.long)
  handle_wide {d = done (threw v) t} k j h g = rw h.same (g v t h.long)
  handle_wide {d = spent t} k j h g = rw h.same (record { same = refl; long = h.long })

  map_wide : {d r : Result S} (g : Out → Out) → Wide d r → Wide (map_out g d) (map_out g r)
  unfolding map_out
  map_wide {d = done o t} g h = rw h.same (end_wide _ t h.long)
  map_wide {d = spent t} g h = rw h.same (record { same = refl; long = h.long })

  branch_wide : (b : Bool) (k k' j j' : State S → Result S) → Carries k k' → Carries j j' → Carries (branch b k j) (branch b k' j')
  unfolding branch
  branch_wide true k k' j j' p q s h = p s h
  branch_wide false k k' j j' p q s h = q s h

  enter_wide : (o : Option ℕ) (s : State S) → enter o (widen τ s) ≡ widen τ (enter o s)
  unfolding enter
  enter_wide None s = refl
  enter_wide (Some i) s = refl

  enter_long : (o : Option ℕ) (s : State S) → Long s → Long (enter o s)
  unfolding enter
  enter_long None s h = h
  enter_long (Some i) s h = h

  leave_wide : (o : Option ℕ) → BelowN N o → Carries (leave o) (leave o)
  unfolding leave branch
  leave_wide None b s h = end_wide _ s h
  leave_wide (Some i) b s h = rw (look_left s.store τ i (in_store s h b)) (go (eqb (look s.store i) 1))
    where
      go : (x : Bool) → Wide (branch x (λ t. done normal t) (λ t. done (returned (look t.store i)) (recorded t)) s) (branch x (λ t. done normal t) (λ t. done (returned (look t.store i)) (recorded t)) (widen τ s))
      go true = end_wide _ s h
      go false = rw (look_left s.store τ i (in_store s h b)) (end_wide _ (recorded s) h)

  module _ (H : Meaning S) where
    ask_wide : (kind payload position : ℕ) {vs vs' : List ℕ} (s : State S) (k j : State S → Result S) → Long s → vs' ≡ vs → Carries k j → Wide (ask H kind payload position vs s k) (ask H kind payload position vs' (widen τ s) j)
    unfolding ask on_reply
    ask_wide kind payload position {vs} s k j h e g = rw e (go (H.answer s.host q))
      where
        q : Asked
        q = asked (record { kind = kind; payload = payload; position = position }) vs

        go : (r : Reply) → Wide (on_reply H r (moved s (H.next s.host q)) k) (on_reply H r (moved (widen τ s) (H.next s.host q)) j)
        go (Ok v) = g (gave (moved s (H.next s.host q)) v) h
        go (Err t) = end_wide (threw t.0) (moved s (H.next s.host q)) h

    test_wide : (payload : ℕ) (y y' n n' : State S → Result S) → Carries y y' → Carries n n' → Carries (test H payload y n) (test H payload y' n')
    test_wide payload y y' n n' p q s h = ask_wide 42 payload 0 s _ _ h refl (λ t i. branch_wide _ n n' y y' q p t i)

    each_wide : (kind payload : ℕ) (vs : List ℕ) (n : ℕ) (ps : List Place) → BelowPs N ps → Carries (ask_each H kind payload vs n ps) (ask_each H kind payload vs n ps)
    each_wide kind payload vs n [] b s h = end_wide normal s h
    each_wide kind payload vs n (p ∷ ps) b s h = ask_wide kind payload n s _ _ h refl
        (λ t i. rw (wrote_wide t i p.identifier t.given b.0) (each_wide kind payload vs (suc n) ps b.1 (wrote t p.identifier t.given) (wrote_long t i p.identifier t.given)))

    module _ (ok : ℕ → Bool) where
      tick_wide : (s : State S) (k j : State S → Result S) → Long s → Carries k j → Wide (tick H ok s k) (tick H ok (widen τ s) j)
      unfolding tick
      tick_wide s k j h g = branch_wide (ok s.steps) _ _ _ _ (λ t i. g (stepped t) i) (λ t i. record { same = refl; long = i }) s h

      iter_wide : (k j : State S → Result S) → Carries k j → (x : ℕ) → Carries (iter H ok k x) (iter H ok j x)
      unfolding iter
      iter_wide k j g zero s h = record { same = refl; long = h }
      iter_wide k j g (suc x) s h = tick_wide s _ _ h (λ t i. bind_wide _ _ (g t i) (λ u l. iter_wide k j g x u l))

      op_wide : (c : Class) (o : Op) → BelowPs N o.written → BelowPs N o.operands → Carries (eval_op H c o) (eval_op H c o)
      op_wide loads o w r s h = rw (last_wide s h 0 o.operands r) (end_wide normal (gave s (last_at s 0 o.operands)) h)
      op_wide declares o w r s h = rw (store_wide s h 0 o.written w) (end_wide normal (gave (store_all s 0 o.written) 0) (store_long s h 0 o.written))
      op_wide stores o w r s h = rw (last_wide s h 0 o.operands r, store_wide s h (last_at s 0 o.operands) o.written w)
          (end_wide normal (gave (store_all s (last_at s 0 o.operands) o.written) (last_at s 0 o.operands)) (store_long s h (last_at s 0 o.operands) o.written))
      op_wide asks_each o w r s h = rw (all_wide s h o.operands r) (ask_wide o.kind o.payload 0 s _ _ h refl
          (λ t i. bind_wide _ _ (each_wide o.kind o.payload (all_at s o.operands) 1 o.written w t i) (λ u l. end_wide normal (gave u t.given) l)))
      op_wide asks o w r s h = ask_wide o.kind o.payload 0 s _ _ h (all_wide s h o.operands r) (λ t i. end_wide normal t i)

      mutual
        wide_v : (v : Val) → BelowV N v → Carries (eval_v H ok v) (eval_v H ok v)
        wide_v (operation o) b s h = op_wide (class o.kind) o b.0 b.1 s h
        wide_v (logical o a c) b s h = bind_wide _ _ (wide_v a b.0 s h) (λ t i. test_wide _ _ _ _ _ (wide_v c b.1) (λ u l. end_wide normal (gave u t.given) l) t i)
        wide_v (conditional c a d) b s h = bind_wide _ _ (wide_v c b.0 s h) (λ t i. test_wide _ _ _ _ _ (wide_v a b.1) (wide_v d b.2) t i)
        wide_v (sequence is i v) b s h = bind_wide _ _ (wide_is is b.0 s h) (λ t i. wide_v v b.1 t i)
        wide_v (optional v o) b s h = wide_v v b s h

        wide_i : (i : Instr) → BelowI N i → Carries (eval_i H ok i) (eval_i H ok i)
        wide_i (instr i l v n) b s h = tick_wide s _ _ h (λ t i. bind_wide _ _ (wide_v v b.1 t i) (λ u j. rw (assign_wide l u j b.0) (end_wide normal (assign l u) (assign_long l u j))))

        wide_is : (is : Instrs) → BelowIs N is → Carries (eval_is H ok is) (eval_is H ok is)
        wide_is inil b s h = end_wide normal s h
        wide_is (icons i is) b s h = bind_wide _ _ (wide_i i b.0 s h) (λ t j. wide_is is b.1 t j)

      wide_u : (u : OptVal) → BelowU N u → Carries (eval_o H ok u) (eval_o H ok u)
      wide_u no_val b s h = end_wide normal s h
      wide_u (some_val v) b s h = wide_v v b s h

      chosen_wide : (v : ℕ) (cs : Cases) (a : Around) (n e : ℕ) → BelowK N cs → Carries (select H ok v (aim_k cs a) n e) (select H ok v (aim_k cs a) n e)
      chosen_wide v knil a n e b s h = end_wide normal (gave s e) h
      chosen_wide v (kcons None c cs) a n e b s h = chosen_wide v cs a (suc n) e b.2 s h
      chosen_wide v (kcons (Some p) c cs) a n e b s h = ask_wide 43 0 0 s _ _ h (rw (at_wide s h p b.0))
          (λ t i. branch_wide _ _ _ _ _ (λ u l. chosen_wide v cs a (suc n) e b.2 u l) (λ u l. end_wide normal (gave u n) l) t i)

      tested_wide : (v : Val) (y y' : State S → Result S) → BelowV N v → Carries y y' → Carries (tested H ok v y) (tested H ok v y')
      tested_wide v y y' b p s h = bind_wide _ _ (wide_v v b s h) (λ t i. test_wide 0 _ _ _ _ p (λ u l. end_wide (broke None) u l) t i)

      module _ (rec : ℕ → Option ℕ) (f : ℕ) (low : (x : ℕ) → BelowN N (rec x)) where
        break_wide : (l i : ℕ) (k : ReactiveTerminalTargetKind) (m : Option ℕ) → Carries (run_t H ok rec f (break l i k) m) (run_t H ok rec f (break l i k) m)
        break_wide l i Implicit m s h = end_wide _ s h
        break_wide l i Unlabeled m s h = end_wide _ s h
        break_wide l i Labeled m s h = end_wide _ s h

        continue_wide : (l i : ℕ) (k : ReactiveTerminalTargetKind) (m : Option ℕ) → Carries (run_t H ok rec f (continue l i k) m) (run_t H ok rec f (continue l i k) m)
        continue_wide l i Implicit m s h = end_wide _ s h
        continue_wide l i Unlabeled m s h = end_wide _ s h
        continue_wide l i Labeled m s h = end_wide _ s h

        -- of the tree with its jumps aimed, which is the one that runs
        mutual
          wide_s : (x : Stmt) (a : Around) → BelowS N x → Carries (run_s H ok rec f (aim_s x a)) (run_s H ok rec f (aim_s x a))
          wide_s (instruction i) a b s h = wide_i i b s h
          wide_s (scope x c) a b s h = tick_wide s _ _ h (λ t i. bind_wide _ _ (rw (enter_wide (rec x) t) (wide_b c a b (enter (rec x) t) (enter_long (rec x) t i))) (leave_wide (rec x) (low x)))
          wide_s (pruned x c) a b s h = tick_wide s _ _ h (λ t i. wide_b c a b t i)
          wide_s (terminal t m) a b s h = tick_wide s _ _ h (λ u i. map_wide _ (wide_t t (mark m) (labelled (mark_inside t m) a) b u i))

          wide_t : (x : Term) (m : Option ℕ) (a : Around) → BelowT N x → Carries (run_t H ok rec f (aim_t x m a) m) (run_t H ok rec f (aim_t x m a) m)
          wide_t (break l i k) m a b s h = break_wide l i _ m s h
          wide_t (continue l i k) m a b s h = continue_wide l i _ m s h
          wide_t (return p i) m a b s h = rw (at_wide s h p b) (end_wide _ s h)
          wide_t (throw p i) m a b s h = rw (at_wide s h p b) (end_wide _ s h)
          wide_t (switch p cs i) m a b s h = rw (at_wide s h p b.0) (bind_wide _ _ (chosen_wide (at s p) cs (in_switch a) 0 _ b.1 s h) (λ t l. map_wide _ (wide_k cs (in_switch a) t.given b.1 t l)))
          wide_t (do_while c v i) m a b s h = map_wide _ (iter_wide _ _ (λ t l. bind_wide _ _ (map_wide _ (wide_b c (in_loop m a) b.0 t l)) (tested_wide v _ _ b.1 (λ w l. end_wide normal w l))) f s h)
          wide_t (while v c i) m a b s h = map_wide _ (iter_wide _ _ (tested_wide v _ _ b.0 (λ t l. map_wide _ (wide_b c (in_loop m a) b.1 t l))) f s h)
          wide_t (for z v u c i) m a b s h = bind_wide _ _ (wide_v z b.0 s h) (λ t l. map_wide _ (iter_wide _ _ (tested_wide v _ _ b.1 (λ x j. bind_wide _ _ (map_wide _ (wide_b c (in_loop m a) b.3 x j)) (wide_u u b.2))) f t l))
          wide_t (for_of z v c i n) m a b s h = bind_wide _ _ (wide_v z b.0 s h) (λ t l. map_wide _ (iter_wide _ _ (tested_wide v _ _ b.1 (λ x j. map_wide _ (wide_b c (in_loop m a) b.2 x j))) f t l))
          wide_t (for_in v c i n) m a b s h = map_wide _ (iter_wide _ _ (tested_wide v _ _ b.0 (λ t l. map_wide _ (wide_b c (in_loop m a) b.1 t l))) f s h)
          wide_t (if p c d i) m a b s h = rw (at_wide s h p b.0) (test_wide 0 _ _ _ _ (wide_b c a b.1) (wide_o d a b.2) (gave s (at s p)) h)
          wide_t (label c i) m a b s h = wide_b c a b s h
          wide_t (try c p d i) m a b s h = handle_wide _ _ (wide_b c a b.0 s h) (λ v t l. rw (assign_wide p (gave t v) l b.1) (wide_b d a b.2 (assign p (gave t v)) (assign_long p (gave t v) l)))

          wide_k : (cs : Cases) (a : Around) (n : ℕ) → BelowK N cs → Carries (run_from H ok rec f (aim_k cs a) n) (run_from H ok rec f (aim_k cs a) n)
          wide_k knil a n b s h = end_wide normal s h
          wide_k (kcons t c cs) a zero b s h = bind_wide _ _ (wide_o c a b.1 s h) (λ u l. wide_k cs a zero b.2 u l)
          wide_k (kcons t c cs) a (suc n) b s h = wide_k cs a n b.2 s h

          wide_o : (c : OptBlock) (a : Around) → BelowO N c → Carries (run_o H ok rec f (aim_o c a)) (run_o H ok rec f (aim_o c a))
          wide_o no_block a b s h = end_wide normal s h
          wide_o (some_block c) a b s h = wide_b c a b s h

          wide_b : (c : Block) (a : Around) → BelowB N c → Carries (run_b H ok rec f (aim_b c a)) (run_b H ok rec f (aim_b c a))
          wide_b nil a b s h = end_wide normal s h
          wide_b (cons x c) a b s h = bind_wide _ _ (wide_s x a b.0 s h) (λ t l. wide_b c a b.1 t l)

low_records : (N : ℕ) (ss : List ScopeInfo) → BelowR N ss → (x : ℕ) → BelowN N (records_of ss x)
unfolding records_of
low_records N [] b x = tt
low_records N (s ∷ ss) b zero = b.0
low_records N (s ∷ ss) b (suc x) = low_records N ss b.1 x

pub only_table : {S : Type 0} → OnlyTable S
unfolding exec
only_table H F h σ τ B b i =
    let N : ℕ = length F.identifiers in
    let w = wide_b τ N (length σ) i H (within H B) (records_of F.scopes) (suc B) (low_records N F.scopes b.records_below) F.body nowhere b.body_below (begin H h σ) refl in
    record { same = w.same; as_long = w.long }
