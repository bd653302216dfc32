-- The run of a function, by recursion over its tree, for any host. Assumes nothing.
use Rattle.std.specs.Prelude.{ℕ, zero, suc, Bool, true, false, List, [], ◌∷◌, Some, None, Option, ◌==◌, nat_lt}
use Rattle.hir.specs.declared.value.LogicalOperator.{LogicalOperator}
use Rattle.hir.specs.declared.value.LogicalOperator.TheVariants.{Or, And, Coalesce}
use Rattle.hir.specs.declared.environment.ReactiveScopeEarlyReturn.{ReactiveScopeEarlyReturn}
use Rattle.hir.specs.declared.terminal.ReactiveTerminalTargetKind.TheVariants.{Implicit, Labeled, Unlabeled}
use Rattle.hir.specs.Tree.{Op, Val, operation, logical, conditional, sequence, optional, OptVal, no_val, some_val, Instr, instr, Instrs, inil, icons, Stmt, instruction, scope, pruned, terminal, Term, break, continue, return, throw, switch, do_while, while, for, for_of, for_in, if, label, try, Cases, knil, kcons, OptBlock, no_block, some_block, Block, nil, cons, ScopeInfo, Function}
use Rattle.semantics.specs.Machine.{Meaning, State, Out, normal, broke, continued, returned, threw, Result, done, spent, gave, at, all_at, last_at, store_all, assign, bind, handle, map_out, enter, leave, branch, ask, test, ask_each, tick, iter}
use Rattle.semantics.specs.Targets.{mark, mark_inside, nowhere, aim_b}
use Rattle.semantics.specs.declared.Outcome.{Outcome}
use Rattle.semantics.specs.declared.Outcome.TheVariants.{Returned, Thrown, Ended, Spent}
use Rattle.semantics.specs.declared.Ran.{Ran}

-- what an instruction kind does: give its operand, declare, store, ask and then ask for each written place, or ask
pub data Class : Type 0 where
  loads declares stores asks_each asks : Class

abbrev pub within_list : ℕ → List ℕ → Bool
within_list k [] = false
within_list k (n ∷ ns) = elim (k == n) [ true ↦ true | false ↦ within_list k ns ]

abbrev pub pick : Bool → Class → Class → Class
pick true c d = c
pick false c d = d

-- 0 LoadLocal, 1 LoadContext, 2 DeclareLocal, 3 DeclareContext, 4 StoreLocal, 5 StoreContext, 6 Destructure, 37 PrefixUpdate, 38 PostfixUpdate
unfoldable pub class : ℕ → Class
class k =
    pick (within_list k (0 ∷ 1 ∷ [])) loads
    (pick (within_list k (2 ∷ 3 ∷ [])) declares
    (pick (within_list k (4 ∷ 5 ∷ [])) stores
    (pick (within_list k (6 ∷ 37 ∷ 38 ∷ [])) asks_each asks)))

abbrev pub operator_number : LogicalOperator → ℕ
operator_number Or = 0
operator_number And = 1
operator_number Coalesce = 2

-- what ends at a loop, a loop's round, and a labeled statement: m is its label
abbrev pub when : Bool → Out → Out
when true o = normal
when false o = o

abbrev pub has_label : ℕ → Option ℕ → Bool
has_label l None = false
has_label l (Some m) = l == m

abbrev pub end_loop : Option ℕ → Out → Out
end_loop m normal = normal
end_loop m (broke None) = normal
end_loop m (broke (Some l)) = when (has_label l m) (broke (Some l))
end_loop m (continued l) = continued l
end_loop m (returned v) = returned v
end_loop m (threw v) = threw v

abbrev pub end_round : Option ℕ → Out → Out
end_round m normal = normal
end_round m (broke l) = broke l
end_round m (continued None) = normal
end_round m (continued (Some l)) = when (has_label l m) (continued (Some l))
end_round m (returned v) = returned v
end_round m (threw v) = threw v

abbrev pub end_label : Option ℕ → Out → Out
end_label m normal = normal
end_label m (broke None) = broke None
end_label m (broke (Some l)) = when (has_label l m) (broke (Some l))
end_label m (continued l) = continued l
end_label m (returned v) = returned v
end_label m (threw v) = threw v

-- the place of the first case without a test, or how many cases there are
abbrev pub default : Cases → ℕ
default knil = 0
default (kcons None b cs) = 0
default (kcons (Some p) b cs) = suc (default cs)

-- the recorded places of the scopes
abbrev pub recorded_place : Option ReactiveScopeEarlyReturn → Option ℕ
recorded_place None = None
recorded_place (Some r) = Some r.value

unfoldable pub records_of : List ScopeInfo → ℕ → Option ℕ
records_of [] x = None
records_of (s ∷ ss) zero = recorded_place s.early
records_of (s ∷ ss) (suc x) = records_of ss x

module _ {S : Type 0} (H : Meaning S) where
  abbrev pub eval_op : Class → Op → State S → Result S
  eval_op loads o s = done normal (gave s (last_at s 0 o.operands))
  eval_op declares o s = done normal (gave (store_all s 0 o.written) 0)
  eval_op stores o s = done normal (gave (store_all s (last_at s 0 o.operands) o.written) (last_at s 0 o.operands))
  eval_op asks_each o s = ask H o.kind o.payload 0 (all_at s o.operands) s (λ t. bind (ask_each H o.kind o.payload (all_at s o.operands) 1 o.written t) (λ u. done normal (gave u t.given)))
  eval_op asks o s = ask H o.kind o.payload 0 (all_at s o.operands) s (λ t. done normal t)

  -- `ok n`: may one more step begin after n steps?
  module _ (ok : ℕ → Bool) where
    abbrev mutual
      pub eval_v : Val → State S → Result S
      eval_v (operation o) s = eval_op (class o.kind) o s
      eval_v (logical o a b) s = bind (eval_v a s) (λ t. test H (suc (operator_number o)) (λ u. eval_v b u) (λ u. done normal (gave u t.given)) t)
      eval_v (conditional c a b) s = bind (eval_v c s) (λ t. test H 0 (λ u. eval_v a u) (λ u. eval_v b u) t)
      eval_v (sequence is i v) s = bind (eval_is is s) (λ t. eval_v v t)
      eval_v (optional v o) s = eval_v v s

      pub eval_i : Instr → State S → Result S
      eval_i (instr i l v n) s = tick H ok s (λ t. bind (eval_v v t) (λ u. done normal (assign l u)))

      pub eval_is : Instrs → State S → Result S
      eval_is inil s = done normal s
      eval_is (icons i is) s = bind (eval_i i s) (λ t. eval_is is t)

    abbrev pub eval_o : OptVal → State S → Result S
    eval_o no_val s = done normal s
    eval_o (some_val v) s = eval_v v s

    -- the first case with a yes on the value v is given by its place; n is this case's place, e what is given with no yes
    abbrev pub select : ℕ → Cases → ℕ → ℕ → State S → Result S
    select v knil n e s = done normal (gave s e)
    select v (kcons None b cs) n e s = select v cs (suc n) e s
    select v (kcons (Some p) b cs) n e s = ask H 43 0 0 (v ∷ at s p ∷ []) s (λ t. branch (t.given == 0) (λ u. select v cs (suc n) e u) (λ u. done normal (gave u n)) t)

    -- a value, tested; no leaves the loop
    abbrev pub tested : Val → (State S → Result S) → State S → Result S
    tested v y s = bind (eval_v v s) (λ t. test H 0 y (λ u. done (broke None) u) t)

    -- rec: the recorded place of each scope; f: how many rounds a loop may have
    module _ (rec : ℕ → Option ℕ) (f : ℕ) where
      abbrev mutual
        pub run_s : Stmt → State S → Result S
        run_s (instruction i) s = eval_i i s
        run_s (scope x b) s = tick H ok s (λ t. bind (run_b b (enter (rec x) t)) (λ u. leave (rec x) u))
        run_s (pruned x b) s = tick H ok s (λ t. run_b b t)
        run_s (terminal t m) s = tick H ok s (λ u. map_out (end_label (mark_inside t m)) (run_t t (mark m) u))

        pub run_t : Term → Option ℕ → State S → Result S
        run_t (break l i Implicit) m s = done normal s
        run_t (break l i Unlabeled) m s = done (broke None) s
        run_t (break l i Labeled) m s = done (broke (Some l)) s
        run_t (continue l i Implicit) m s = done normal s
        run_t (continue l i Unlabeled) m s = done (continued None) s
        run_t (continue l i Labeled) m s = done (continued (Some l)) s
        run_t (return p i) m s = done (returned (at s p)) s
        run_t (throw p i) m s = done (threw (at s p)) s
        run_t (switch p cs i) m s = bind (select (at s p) cs 0 (default cs) s) (λ t. map_out (end_loop m) (run_from cs t.given t))
        run_t (do_while b v i) m s = map_out (end_loop m) (iter H ok (λ t. bind (map_out (end_round m) (run_b b t)) (λ u. tested v (λ w. done normal w) u)) f s)
        run_t (while v b i) m s = map_out (end_loop m) (iter H ok (λ t. tested v (λ u. map_out (end_round m) (run_b b u)) t) f s)
        run_t (for a v u b i) m s = bind (eval_v a s) (λ t. map_out (end_loop m) (iter H ok (λ w. tested v (λ x. bind (map_out (end_round m) (run_b b x)) (λ y. eval_o u y)) w) f t))
        run_t (for_of a v b i n) m s = bind (eval_v a s) (λ t. map_out (end_loop m) (iter H ok (λ w. tested v (λ x. map_out (end_round m) (run_b b x)) w) f t))
        run_t (for_in v b i n) m s = map_out (end_loop m) (iter H ok (λ t. tested v (λ u. map_out (end_round m) (run_b b u)) t) f s)
        run_t (if p b c i) m s = test H 0 (λ u. run_b b u) (λ u. run_o c u) (gave s (at s p))
        run_t (label b i) m s = run_b b s
        run_t (try b p c i) m s = handle (run_b b s) (λ v t. run_b c (assign p (gave t v)))

        -- the blocks of the cases from place n on
        pub run_from : Cases → ℕ → State S → Result S
        run_from knil n s = done normal s
        run_from (kcons t b cs) zero s = bind (run_o b s) (λ u. run_from cs zero u)
        run_from (kcons t b cs) (suc n) s = run_from cs n s

        pub run_o : OptBlock → State S → Result S
        run_o no_block s = done normal s
        run_o (some_block b) s = run_b b s

        pub run_b : Block → State S → Result S
        run_b nil s = done normal s
        run_b (cons x b) s = bind (run_s x s) (λ t. run_b b t)

  abbrev pub begin : S → List ℕ → State S
  begin h σ = record { host = h; store = σ; given = 0; steps = 0; entries = 0; records = 0 }

  abbrev pub within : ℕ → ℕ → Bool
  within B n = nat_lt n B

  abbrev pub always : ℕ → Bool
  always n = true

  -- the run of a function with the budget B; each round costs a step, so B + 1 rounds are never used up
  unfoldable pub exec : Function → ℕ → S → List ℕ → Result S
  exec F B h σ = run_b (within B) (records_of F.scopes) (suc B) (aim_b F.body nowhere) (begin h σ)

  -- the run with no budget, at most f rounds for each loop that it comes to
  unfoldable pub unbounded : Function → ℕ → S → List ℕ → Result S
  unbounded F f h σ = run_b always (records_of F.scopes) f (aim_b F.body nowhere) (begin h σ)

-- what a caller is told
abbrev pub outcome : Out → Outcome
outcome normal = Ended
outcome (broke l) = Ended
outcome (continued l) = Ended
outcome (returned v) = Returned v
outcome (threw v) = Thrown v

module _ {S : Type 0} where
  abbrev pub last : Result S → State S
  last (done o s) = s
  last (spent s) = s

  abbrev pub outcome_of : Result S → Outcome
  outcome_of (done o s) = outcome o
  outcome_of (spent s) = Spent

  abbrev pub ran : Result S → Ran
  ran r = record { outcome = outcome_of r; steps = (last r).steps; entries = (last r).entries; recorded = nat_lt 0 (last r).records }
