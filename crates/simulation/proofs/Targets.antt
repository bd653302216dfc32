-- A tree whose jumps all have their targets is run as it is.
-- The pass that makes jumps without target implicit changes nothing in it.
use Rattle.std.proofs.Common.{◌≡◌, ℕ, Option, refl}
use Rattle.hir.specs.Tree.{Stmt, instruction, scope, pruned, terminal, Term, break, continue, return, throw, switch, do_while, while, for, for_of, for_in, if, label, try, Cases, knil, kcons, OptBlock, no_block, some_block, Block, nil, cons}
use Rattle.semantics.specs.Targets.{Around, mark, mark_inside, labelled, in_switch, in_loop, TgS, TgT, TgK, TgO, TgB, aim_s, aim_t, aim_k, aim_o, aim_b}

mutual
  at_s : (x : Stmt) (a : Around) → TgS x a → aim_s x a ≡ x
  at_s (instruction i) a h = refl
  at_s (scope x b) a h = rw (at_b b a h)
  at_s (pruned x b) a h = rw (at_b b a h)
  at_s (terminal t m) a h = rw (at_t t (mark m) (labelled (mark_inside t m) a) h)

  at_t : (t : Term) (m : Option ℕ) (a : Around) → TgT t m a → aim_t t m a ≡ t
  at_t (break l i k) m a h = rw h
  at_t (continue l i k) m a h = rw h
  at_t (return p i) m a h = refl
  at_t (throw p i) m a h = refl
  at_t (switch p cs i) m a h = rw (at_k cs (in_switch a) h)
  at_t (do_while b v i) m a h = rw (at_b b (in_loop m a) h)
  at_t (while v b i) m a h = rw (at_b b (in_loop m a) h)
  at_t (for n v u b i) m a h = rw (at_b b (in_loop m a) h)
  at_t (for_of n v b i l) m a h = rw (at_b b (in_loop m a) h)
  at_t (for_in v b i l) m a h = rw (at_b b (in_loop m a) h)
  at_t (if p b c i) m a h = rw (at_b b a h.0, at_o c a h.1)
  at_t (label b i) m a h = rw (at_b b a h)
  at_t (try b p c i) m a h = rw (at_b b a h.0, at_b c a h.1)

  at_k : (cs : Cases) (a : Around) → TgK cs a → aim_k cs a ≡ cs
  at_k knil a h = refl
  at_k (kcons t b cs) a h = rw (at_o b a h.0, at_k cs a h.1)

  at_o : (b : OptBlock) (a : Around) → TgO b a → aim_o b a ≡ b
  at_o no_block a h = refl
  at_o (some_block b) a h = rw (at_b b a h)

  pub at_b : (b : Block) (a : Around) → TgB b a → aim_b b a ≡ b
  at_b nil a h = refl
  at_b (cons x b) a h = rw (at_s x a h.0, at_b b a h.1)
