-- What is left of a run: a list of tasks, each with its meaning and its weight. Assumes nothing.
use Rattle.std.specs.Prelude.{ℕ, zero, suc, ◌+◌, List, [], ◌∷◌, Some, None, Option}
use Rattle.hir.specs.declared.place.Place.{Place}
use Rattle.hir.specs.Tree.{Val, operation, logical, conditional, sequence, optional, OptVal, no_val, some_val, Instr, instr, Instrs, inil, icons, Stmt, instruction, scope, pruned, terminal, Term, break, continue, return, throw, switch, do_while, while, for, for_of, for_in, if, label, try, Cases, knil, kcons, OptBlock, no_block, some_block, Block, nil, cons}
use Rattle.semantics.specs.Machine.{Meaning, State, normal, broke, Result, done, gave, assign, bind, handle, map_out, enter, leave, test, iter}
use Rattle.semantics.specs.Targets.{Around, nowhere, labelled, in_loop, in_switch, mark, mark_inside, aim_b, aim_k, aim_s}
use Rattle.semantics.specs.Exec.{end_loop, end_round, end_label, default, eval_v, eval_is, eval_o, select, tested, run_b, run_t, run_from, within}

-- a loop: a test and a block; a block and a test; a test, an update and a block
pub data Loop : Type 0 where
  test_first : Val → Block → Loop
  block_first : Block → Val → Loop
  updating : Val → OptVal → Block → Loop

-- `begun` is a statement whose step is paid; `m` the label of the statement that a task ends; a round has the number of rounds that are left; what selects a case
-- has the value, the cases to ask for, the next one's place, the first place without a test, and all cases
pub data Task : Type 0 where
  block : Block → Task
  begun : Stmt → Task
  value : Val → Task
  assigns : Option Place → Task
  instrs : Instrs → Task
  after_left : ℕ → Val → Task
  after_test : Val → Val → Task
  leaves : Option ℕ → Task
  ends_label : Option ℕ → Task
  ends_loop : Option ℕ → Task
  ends_switch : Option ℕ → Task
  ends_round : Option ℕ → Task
  starts : Loop → Option ℕ → Task
  rounds : Loop → Option ℕ → ℕ → Task
  tests : Loop → Option ℕ → Task
  selects : ℕ → Cases → ℕ → Option ℕ → Cases → Option ℕ → Task
  cases : Cases → Task
  catches : Option Place → Block → Task

-- ---- what stands around a task
abbrev pub inside : Task → Around → Around
inside (block b) a = a
inside (begun x) a = a
inside (value v) a = a
inside (assigns l) a = a
inside (instrs is) a = a
inside (after_left p b) a = a
inside (after_test x y) a = a
inside (leaves x) a = a
inside (ends_label m) a = labelled m a
inside (ends_loop m) a = in_loop m a
inside (ends_switch m) a = in_switch a
inside (ends_round m) a = a
inside (starts l m) a = a
inside (rounds l m n) a = a
inside (tests l m) a = a
inside (selects v cs n e all m) a = a
inside (cases cs) a = a
inside (catches p c) a = a

abbrev pub around : List Task → Around
around [] = nowhere
around (t ∷ k) = inside t (around k)

-- the place of the first case without a test: found before, or among those that are left
abbrev pub first : Option ℕ → Cases → ℕ → ℕ
first (Some d) cs n = d
first None cs n = n + default cs

-- ---- what a task makes of the result before it
module _ {S : Type 0} (H : Meaning S) (B : ℕ) (rec : ℕ → Option ℕ) where
  abbrev pub runs : Block → State S → Result S
  runs b s = run_b H (within H B) rec (suc B) b s

  abbrev pub values : Val → State S → Result S
  values v s = eval_v H (within H B) v s

  -- a statement whose step is paid
  abbrev pub begins : Stmt → State S → Result S
  begins (instruction (instr i l v n)) s = bind (values v s) (λ u. done normal (assign l u))
  begins (scope x b) s = bind (runs b (enter (rec x) s)) (λ u. leave (rec x) u)
  begins (pruned x b) s = runs b s
  begins (terminal t m) s = map_out (end_label (mark_inside t m)) (run_t H (within H B) rec (suc B) t (mark m) s)

  -- after a yes of a loop's test
  abbrev pub after_yes : Loop → Option ℕ → Around → State S → Result S
  after_yes (test_first v b) m a s = map_out (end_round m) (runs (aim_b b a) s)
  after_yes (block_first b v) m a s = done normal s
  after_yes (updating v u b) m a s = bind (map_out (end_round m) (runs (aim_b b a) s)) (λ y. eval_o H (within H B) u y)

  abbrev pub round_of : Loop → Option ℕ → Around → State S → Result S
  round_of (test_first v b) m a s = tested H (within H B) v (λ u. map_out (end_round m) (runs (aim_b b a) u)) s
  round_of (block_first b v) m a s = bind (map_out (end_round m) (runs (aim_b b a) s)) (λ u. tested H (within H B) v (λ w. done normal w) u)
  round_of (updating v u b) m a s = tested H (within H B) v (λ x. bind (map_out (end_round m) (runs (aim_b b a) x)) (λ y. eval_o H (within H B) u y)) s

  abbrev pub act : Around → Task → Result S → Result S
  act a (block b) r = bind r (λ s. runs (aim_b b a) s)
  act a (begun x) r = bind r (λ s. begins (aim_s x a) s)
  act a (value v) r = bind r (λ s. values v s)
  act a (assigns l) r = bind r (λ s. done normal (assign l s))
  act a (instrs is) r = bind r (λ s. eval_is H (within H B) is s)
  act a (after_left p b) r = bind r (λ t. test H p (λ u. values b u) (λ u. done normal (gave u t.given)) t)
  act a (after_test x y) r = bind r (λ t. test H 0 (λ u. values x u) (λ u. values y u) t)
  act a (leaves x) r = bind r (λ u. leave x u)
  act a (ends_label m) r = map_out (end_label m) r
  act a (ends_loop m) r = map_out (end_loop m) r
  act a (ends_switch m) r = map_out (end_loop m) r
  act a (ends_round m) r = map_out (end_round m) r
  act a (starts l m) r = bind r (λ s. map_out (end_loop m) (iter H (within H B) (round_of l m (in_loop m a)) (suc B) s))
  act a (rounds l m n) r = bind r (λ s. iter H (within H B) (round_of l m a) n s)
  act a (tests l m) r = bind r (λ t. test H 0 (after_yes l m a) (λ u. done (broke None) u) t)
  act a (selects v cs n e all m) r =
      bind r (λ s. bind (select H (within H B) v (aim_k cs (in_switch a)) n (first e (aim_k cs (in_switch a)) n) s)
      (λ t. map_out (end_loop m) (run_from H (within H B) rec (suc B) (aim_k all (in_switch a)) t.given t)))
  act a (cases cs) r = bind r (λ s. run_from H (within H B) rec (suc B) (aim_k cs a) zero s)
  act a (catches p c) r = handle r (λ v t. runs (aim_b c a) (assign p (gave t v)))

  -- the result of the whole, from that of the part before the tasks
  abbrev pub resume : List Task → Result S → Result S
  resume [] r = r
  resume (t ∷ k) r = resume k (act (around k) t r)

-- ---- how many turns a task takes at most, rounds of loops not counted
abbrev mutual
  pub w_v : Val → ℕ
  w_v (operation o) = 1
  w_v (logical o a b) = suc (w_v a + suc (w_v b))
  w_v (conditional c a b) = suc (w_v c + suc (w_v a + w_v b))
  w_v (sequence is i v) = suc (w_is is + w_v v)
  w_v (optional v o) = suc (w_v v)

  pub w_i : Instr → ℕ
  w_i (instr i l v n) = suc (w_v v)

  pub w_is : Instrs → ℕ
  w_is inil = 1
  w_is (icons i is) = suc (w_i i + w_is is)

abbrev pub w_ov : OptVal → ℕ
w_ov no_val = 0
w_ov (some_val v) = w_v v

abbrev pub count : Cases → ℕ
count knil = 0
count (kcons t b cs) = suc (count cs)

abbrev mutual
  pub w_s : Stmt → ℕ
  w_s (instruction i) = w_i i
  w_s (scope x b) = suc (w_b b)
  w_s (pruned x b) = w_b b
  w_s (terminal t m) = suc (w_t t)

  pub w_t : Term → ℕ
  w_t (break l i k) = 0
  w_t (continue l i k) = 0
  w_t (return p i) = 0
  w_t (throw p i) = 0
  w_t (switch p cs i) = count cs + suc (suc (suc (w_k cs)))
  w_t (do_while b v i) = suc (suc (suc (w_b b + suc (w_v v + 1))))
  w_t (while v b i) = suc (suc (suc (w_v v + suc (suc (w_b b)))))
  w_t (for a v u b i) = w_v a + suc (suc (suc (w_v v + suc (w_ov u + suc (w_b b)))))
  w_t (for_of a v b i n) = w_v a + suc (suc (suc (w_v v + suc (suc (w_b b)))))
  w_t (for_in v b i n) = suc (suc (suc (w_v v + suc (suc (w_b b)))))
  w_t (if p b c i) = w_b b + w_o c
  w_t (label b i) = w_b b
  w_t (try b p c i) = w_b b + suc (w_b c)

  pub w_k : Cases → ℕ
  w_k knil = 1
  w_k (kcons t b cs) = suc (w_o b + w_k cs)

  pub w_o : OptBlock → ℕ
  w_o no_block = 0
  w_o (some_block b) = w_b b

  pub w_b : Block → ℕ
  w_b nil = 1
  w_b (cons x b) = suc (w_s x + w_b b)

abbrev pub w_tests : Loop → ℕ
w_tests (test_first v b) = suc (suc (w_b b))
w_tests (block_first b v) = 1
w_tests (updating v u b) = suc (w_ov u + suc (w_b b))

abbrev pub w_loop : Loop → ℕ
w_loop (test_first v b) = w_v v + suc (suc (w_b b))
w_loop (block_first b v) = w_b b + suc (w_v v + 1)
w_loop (updating v u b) = w_v v + suc (w_ov u + suc (w_b b))

abbrev pub weight : Task → ℕ
weight (block b) = w_b b
weight (begun x) = suc (w_s x)
weight (value v) = w_v v
weight (assigns l) = 1
weight (instrs is) = w_is is
weight (after_left p b) = suc (w_v b)
weight (after_test x y) = suc (w_v x + w_v y)
weight (leaves x) = 1
weight (ends_label m) = 1
weight (ends_loop m) = 1
weight (ends_switch m) = 1
weight (ends_round m) = 1
weight (starts l m) = suc (suc (suc (w_loop l)))
weight (rounds l m n) = 1
weight (tests l m) = w_tests l
weight (selects v cs n e all m) = count cs + suc (suc (suc (w_k all)))
weight (cases cs) = w_k cs
weight (catches p c) = suc (w_b c)

abbrev pub weights : List Task → ℕ
weights [] = 0
weights (t ∷ k) = weight t + weights k

-- ---- how many steps are paid for what has yet to begin
abbrev pub owing : Task → ℕ
owing (block b) = 0
owing (begun x) = 1
owing (value v) = 0
owing (assigns l) = 0
owing (instrs is) = 0
owing (after_left p b) = 0
owing (after_test x y) = 0
owing (leaves x) = 0
owing (ends_label m) = 0
owing (ends_loop m) = 0
owing (ends_switch m) = 0
owing (ends_round m) = 0
owing (starts l m) = 0
owing (rounds l m n) = 0
owing (tests l m) = 0
owing (selects v cs n e all m) = 0
owing (cases cs) = 0
owing (catches p c) = 0

abbrev pub owed : List Task → ℕ
owed [] = 0
owed (t ∷ k) = owing t + owed k
