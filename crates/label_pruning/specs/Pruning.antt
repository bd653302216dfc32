-- Label pruning: a Label that no labeled Break inside targets gives way to its statements. Assumes nothing.
use Rattle.std.specs.Prelude.{ℕ, Bool, true, false, cond, ◌||◌, Some, None, Option, ◌==◌}
use Rattle.hir.specs.declared.terminal.ReactiveLabel.{ReactiveLabel}
use Rattle.hir.specs.declared.terminal.ReactiveTerminalTargetKind.{ReactiveTerminalTargetKind}
use Rattle.hir.specs.declared.terminal.ReactiveTerminalTargetKind.TheVariants.{Implicit, Labeled, Unlabeled}
use Rattle.hir.specs.Tree.{Stmt, instruction, scope, pruned, terminal, Term, break, continue, return, throw, switch, do_while, while, for, for_of, for_in, if, label, try, Cases, knil, kcons, OptBlock, no_block, some_block, Block, nil, cons, Function}
use Rattle.semantics.specs.Exec.{has_label}
use Rattle.semantics.specs.Targets.{mark, mark_inside}

abbrev pub append : Block → Block → Block
append nil c = c
append (cons x b) c = cons x (append b c)

abbrev pub breaks : ℕ → ℕ → ReactiveTerminalTargetKind → Bool
breaks l k Implicit = false
breaks l k Labeled = k == l
breaks l k Unlabeled = false

-- does a labeled Break inside target the statement around with the label l? Those inside another statement with that label target that one
module _ (l : ℕ) where
  abbrev mutual
    pub targets_s : Stmt → Bool
    targets_s (instruction i) = false
    targets_s (scope x b) = targets_b b
    targets_s (pruned x b) = targets_b b
    targets_s (terminal t m) = cond (has_label l (mark_inside t m)) false (targets_t t)

    pub targets_t : Term → Bool
    targets_t (break k i t) = breaks l k t
    targets_t (continue k i t) = false
    targets_t (return p i) = false
    targets_t (throw p i) = false
    targets_t (switch p cs i) = targets_k cs
    targets_t (do_while b v i) = targets_b b
    targets_t (while v b i) = targets_b b
    targets_t (for a v u b i) = targets_b b
    targets_t (for_of a v b i n) = targets_b b
    targets_t (for_in v b i n) = targets_b b
    targets_t (if p b c i) = targets_b b || targets_o c
    targets_t (label b i) = targets_b b
    targets_t (try b p c i) = targets_b b || targets_b c

    pub targets_k : Cases → Bool
    targets_k knil = false
    targets_k (kcons t b cs) = targets_o b || targets_k cs

    pub targets_o : OptBlock → Bool
    targets_o no_block = false
    targets_o (some_block b) = targets_b b

    pub targets_b : Block → Bool
    targets_b nil = false
    targets_b (cons x b) = targets_s x || targets_b b

-- is a Label with that label, around that block, a target? Without a label, or with an implicit one, it is none
abbrev pub targeted : Option ℕ → Block → Bool
targeted None b = false
targeted (Some l) b = targets_b l b

-- r: the statements behind
abbrev pub unless_pruned : Bool → Block → ℕ → Option ReactiveLabel → Block → Block
unless_pruned true b i m r = cons (terminal (label b i) m) r
unless_pruned false b i m r = append b r

abbrev mutual
  pub prune_s : Stmt → Block → Block
  prune_s (instruction i) r = cons (instruction i) r
  prune_s (scope x b) r = cons (scope x (prune_b b)) r
  prune_s (pruned x b) r = cons (pruned x (prune_b b)) r
  prune_s (terminal t m) r = prune_t t m r

  pub prune_t : Term → Option ReactiveLabel → Block → Block
  prune_t (break l i k) m r = cons (terminal (break l i k) m) r
  prune_t (continue l i k) m r = cons (terminal (continue l i k) m) r
  prune_t (return p i) m r = cons (terminal (return p i) m) r
  prune_t (throw p i) m r = cons (terminal (throw p i) m) r
  prune_t (switch p cs i) m r = cons (terminal (switch p (prune_k cs) i) m) r
  prune_t (do_while b v i) m r = cons (terminal (do_while (prune_b b) v i) m) r
  prune_t (while v b i) m r = cons (terminal (while v (prune_b b) i) m) r
  prune_t (for a v u b i) m r = cons (terminal (for a v u (prune_b b) i) m) r
  prune_t (for_of a v b i n) m r = cons (terminal (for_of a v (prune_b b) i n) m) r
  prune_t (for_in v b i n) m r = cons (terminal (for_in v (prune_b b) i n) m) r
  prune_t (if p b c i) m r = cons (terminal (if p (prune_b b) (prune_o c) i) m) r
  prune_t (label b i) m r = unless_pruned (targeted (mark m) b) (prune_b b) i m r
  prune_t (try b p c i) m r = cons (terminal (try (prune_b b) p (prune_b c) i) m) r

  pub prune_k : Cases → Cases
  prune_k knil = knil
  prune_k (kcons t b cs) = kcons t (prune_o b) (prune_k cs)

  pub prune_o : OptBlock → OptBlock
  prune_o no_block = no_block
  prune_o (some_block b) = some_block (prune_b b)

  pub prune_b : Block → Block
  prune_b nil = nil
  prune_b (cons x b) = prune_s x (prune_b b)

unfoldable pub prune_labels : Function → Function
prune_labels F = record { counters = F.counters; identifiers = F.identifiers; scopes = F.scopes; body = prune_b F.body }
