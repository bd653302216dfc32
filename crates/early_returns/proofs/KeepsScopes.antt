-- Lowering leaves the Scope blocks as they are, in their order.
-- So no scope has two of them if none had.
use Rattle.std.proofs.Common.{◌≡◌, ℕ, List, [], ◌∷◌, ◌++◌, Some, None, Option, refl, ap, ◌∙◌}
use Rattle.hir.specs.declared.terminal.ReactiveLabel.{ReactiveLabel}
use Rattle.hir.specs.Tree.{Stmt, instruction, scope, pruned, terminal, Term, break, continue, return, throw, switch, do_while, while, for, for_of, for_in, if, label, try, Cases, knil, kcons, OptBlock, no_block, some_block, Block, nil, cons}
use Rattle.simulation.specs.WellFormed.{scopes_s, scopes_t, scopes_k, scopes_o, scopes_b}
use Rattle.early_returns.specs.Lowering.{Env, ids, blocks, unless_recorded, keep_recorded, first_b, open_s, open_t, open_k, open_o, open_b, low_scope, low_s, low_t, low_k, low_o, low_b, after_s, after_b, after_o}

append_nil : (xs : List ℕ) → xs ++ [] ≡ xs
append_nil [] = refl
append_nil (x ∷ xs) = rw (append_nil xs)

module _ (rec : ℕ → Option ℕ) where
  module _ (n l : ℕ) where
    keep_scopes : (o : Option ℕ) (b b' : Block) → scopes_b b' ≡ scopes_b b → scopes_b (keep_recorded o b b') ≡ scopes_b b
    keep_scopes (Some k) b b' e = refl
    keep_scopes None b b' e = e

    mutual
      open_s_scopes : (x : Stmt) (r : Block) → scopes_b (open_s rec n l x r) ≡ scopes_s x ++ scopes_b r
      open_s_scopes (instruction i) r = refl
      open_s_scopes (scope x b) r = rw (keep_scopes (rec x) b (open_b rec n l b) (open_b_scopes b))
      open_s_scopes (pruned x b) r = rw (open_b_scopes b)
      open_s_scopes (terminal t m) r = open_t_scopes t m r

      open_t_scopes : (t : Term) (m : Option ReactiveLabel) (r : Block) → scopes_b (open_t rec n l t m r) ≡ scopes_t t ++ scopes_b r
      open_t_scopes (break t i k) m r = refl
      open_t_scopes (continue t i k) m r = refl
      open_t_scopes (return p i) m r = refl
      open_t_scopes (throw p i) m r = refl
      open_t_scopes (switch p cs i) m r = rw (open_k_scopes cs)
      open_t_scopes (do_while b v i) m r = rw (open_b_scopes b)
      open_t_scopes (while v b i) m r = rw (open_b_scopes b)
      open_t_scopes (for a v u b i) m r = rw (open_b_scopes b)
      open_t_scopes (for_of a v b i s) m r = rw (open_b_scopes b)
      open_t_scopes (for_in v b i s) m r = rw (open_b_scopes b)
      open_t_scopes (if p b c i) m r = rw (open_b_scopes b, open_o_scopes c)
      open_t_scopes (label b i) m r = rw (open_b_scopes b)
      open_t_scopes (try b p c i) m r = rw (open_b_scopes b, open_b_scopes c)

      open_k_scopes : (cs : Cases) → scopes_k (open_k rec n l cs) ≡ scopes_k cs
      open_k_scopes knil = refl
      open_k_scopes (kcons t b cs) = rw (open_o_scopes b, open_k_scopes cs)

      open_o_scopes : (b : OptBlock) → scopes_o (open_o rec n l b) ≡ scopes_o b
      open_o_scopes no_block = refl
      open_o_scopes (some_block b) = open_b_scopes b

      open_b_scopes : (b : Block) → scopes_b (open_b rec n l b) ≡ scopes_b b
      open_b_scopes nil = refl
      open_b_scopes (cons x b) = open_s_scopes x (open_b rec n l b) ∙ ap (λ (r : List ℕ). scopes_s x ++ r) (open_b_scopes b)

  low_scope_scopes : (o : Option ℕ) (x : ℕ) (b : Block) (e : Env) → scopes_s (low_scope rec o x b e) ≡ x ∷ scopes_b b
  low_scope_scopes None x b e = refl
  low_scope_scopes (Some span) x b e = ap (λ (r : List ℕ). x ∷ r) (append_nil _ ∙ open_b_scopes (ids e) (blocks e) b)

  mutual
    low_s_scopes : (x : Stmt) (e : Env) → scopes_s (low_s rec x e) ≡ scopes_s x
    low_s_scopes (instruction i) e = refl
    low_s_scopes (scope x b) e = low_scope_scopes (unless_recorded (rec x) (first_b rec b)) x b e
    low_s_scopes (pruned x b) e = low_b_scopes b e
    low_s_scopes (terminal t m) e = low_t_scopes t e

    low_t_scopes : (t : Term) (e : Env) → scopes_t (low_t rec t e) ≡ scopes_t t
    low_t_scopes (break l i k) e = refl
    low_t_scopes (continue l i k) e = refl
    low_t_scopes (return p i) e = refl
    low_t_scopes (throw p i) e = refl
    low_t_scopes (switch p cs i) e = low_k_scopes cs e
    low_t_scopes (do_while b v i) e = low_b_scopes b e
    low_t_scopes (while v b i) e = low_b_scopes b e
    low_t_scopes (for a v u b i) e = low_b_scopes b e
    low_t_scopes (for_of a v b i s) e = low_b_scopes b e
    low_t_scopes (for_in v b i s) e = low_b_scopes b e
    low_t_scopes (if p b c i) e = rw (low_b_scopes b e, low_o_scopes c (after_b rec b e))
    low_t_scopes (label b i) e = low_b_scopes b e
    low_t_scopes (try b p c i) e = rw (low_b_scopes b e, low_b_scopes c (after_b rec b e))

    low_k_scopes : (cs : Cases) (e : Env) → scopes_k (low_k rec cs e) ≡ scopes_k cs
    low_k_scopes knil e = refl
    low_k_scopes (kcons t b cs) e = rw (low_o_scopes b e, low_k_scopes cs (after_o rec b e))

    low_o_scopes : (b : OptBlock) (e : Env) → scopes_o (low_o rec b e) ≡ scopes_o b
    low_o_scopes no_block e = refl
    low_o_scopes (some_block b) e = low_b_scopes b e

    pub low_b_scopes : (b : Block) (e : Env) → scopes_b (low_b rec b e) ≡ scopes_b b
    low_b_scopes nil e = refl
    low_b_scopes (cons x b) e = rw (low_s_scopes x e, low_b_scopes b (after_s rec x e))
