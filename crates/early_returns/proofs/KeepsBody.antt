-- The numbers of the lowered body are in range, and its places as their kinds ask.
-- Z: the sizes before lowering, Z': those after it.
use Rattle.std.proofs.Common.{ℕ, ◌+◌, ◌<◌, ◌≤◌, Some, None, Option, refl, arith}
use Rattle.hir.specs.declared.place.Place.{Place}
use Rattle.hir.specs.declared.terminal.ReactiveLabel.{ReactiveLabel}
use Rattle.hir.specs.Tree.{Stmt, instruction, scope, pruned, terminal, Term, break, continue, return, throw, switch, do_while, while, for, for_of, for_in, if, label, try, Cases, knil, kcons, OptBlock, no_block, some_block, Block, nil, cons}
use Rattle.simulation.specs.WellFormed.{IfSome, Sizes, writes, reads, PlaceOk, LabelOk, OkS, OkT, OkK, OkO, OkB}
use Rattle.simulation.proofs.Larger.{Larger, more_place, more_target, more_label, more_v, more_i, more_u, more_s, more_b}
use Rattle.early_returns.specs.Statements.{opening, leaving}
use Rattle.early_returns.specs.Lowering.{Env, ids, blocks, unless_recorded, keep_recorded, first_b, open_s, open_t, open_k, open_o, open_b, after_scope, after_s, after_t, after_k, after_o, after_b, low_scope, low_s, low_t, low_k, low_o, low_b}
use Rattle.early_returns.proofs.Growth.{Grown, grow_k, grow_o, grow_b, five_more}

module _ (Z Z' : Sizes) (m : Larger Z Z') (rec : ℕ → Option ℕ) where
  -- ---- open returns replaced
  module _ (n l : ℕ) (hn : n < Z'.identifiers) (hl : l < Z'.blocks) where
    keep_ok : (o : Option ℕ) (b b' : Block) → OkB Z' b → OkB Z' b' → OkB Z' (keep_recorded o b b')
    keep_ok (Some k) b b' p q = p
    keep_ok None b b' p q = q

    leaving_ok : (p : Place) (r : Block) → PlaceOk Z p → OkB Z' r → OkB Z' (leaving n l p r)
    unfolding writes reads
    leaving_ok p r w h = ((tt, record { written_in = (hn, tt); operands_in = (more_place Z Z' m p w, tt); written_many = refl; operands_many = refl }), ((hl, tt), h))

    mutual
      open_s_ok : (x : Stmt) (r : Block) → OkS Z x → OkB Z' r → OkB Z' (open_s rec n l x r)
      open_s_ok (instruction i) r w h = (more_i Z Z' m i w, h)
      open_s_ok (scope x b) r w h = ((omega (arith, w.0, m.more_scopes), keep_ok (rec x) b _ (more_b Z Z' m b w.1) (open_b_ok b w.1)), h)
      open_s_ok (pruned x b) r w h = ((omega (arith, w.0, m.more_scopes), open_b_ok b w.1), h)
      open_s_ok (terminal t k) r w h = open_t_ok t k r w.0 w.1 h

      open_t_ok : (t : Term) (k : Option ReactiveLabel) (r : Block) → OkT Z t → IfSome (LabelOk Z) k → OkB Z' r → OkB Z' (open_t rec n l t k r)
      open_t_ok (break t i c) k r w v h = ((omega (arith, w, m.more_blocks), more_label Z Z' m k v), h)
      open_t_ok (continue t i c) k r w v h = ((omega (arith, w, m.more_blocks), more_label Z Z' m k v), h)
      open_t_ok (return p i) k r w v h = leaving_ok p r w h
      open_t_ok (throw p i) k r w v h = ((more_place Z Z' m p w, more_label Z Z' m k v), h)
      open_t_ok (switch p cs i) k r w v h = (((more_place Z Z' m p w.0, open_k_ok cs w.1), more_label Z Z' m k v), h)
      open_t_ok (do_while b u i) k r w v h = (((open_b_ok b w.0, more_v Z Z' m u w.1), more_label Z Z' m k v), h)
      open_t_ok (while u b i) k r w v h = (((more_v Z Z' m u w.0, open_b_ok b w.1), more_label Z Z' m k v), h)
      open_t_ok (for a u c b i) k r w v h = (((more_v Z Z' m a w.0, more_v Z Z' m u w.1, more_u Z Z' m c w.2, open_b_ok b w.3), more_label Z Z' m k v), h)
      open_t_ok (for_of a u b i s) k r w v h = (((more_v Z Z' m a w.0, more_v Z Z' m u w.1, open_b_ok b w.2), more_label Z Z' m k v), h)
      open_t_ok (for_in u b i s) k r w v h = (((more_v Z Z' m u w.0, open_b_ok b w.1), more_label Z Z' m k v), h)
      open_t_ok (if p b c i) k r w v h = (((more_place Z Z' m p w.0, open_b_ok b w.1, open_o_ok c w.2), more_label Z Z' m k v), h)
      open_t_ok (label b i) k r w v h = ((open_b_ok b w, more_label Z Z' m k v), h)
      open_t_ok (try b p c i) k r w v h = (((open_b_ok b w.0, more_target Z Z' m p w.1, open_b_ok c w.2), more_label Z Z' m k v), h)

      open_k_ok : (cs : Cases) → OkK Z cs → OkK Z' (open_k rec n l cs)
      open_k_ok knil w = tt
      open_k_ok (kcons t b cs) w = (more_target Z Z' m t w.0, open_o_ok b w.1, open_k_ok cs w.2)

      open_o_ok : (b : OptBlock) → OkO Z b → OkO Z' (open_o rec n l b)
      open_o_ok no_block w = tt
      open_o_ok (some_block b) w = open_b_ok b w

      open_b_ok : (b : Block) → OkB Z b → OkB Z' (open_b rec n l b)
      open_b_ok nil w = tt
      open_b_ok (cons x b) w = open_s_ok x (open_b rec n l b) w.0 (open_b_ok b w.1)

  opening_ok : (n l span : ℕ) (b : Block) → n + 5 ≤ Z'.identifiers → l < Z'.blocks → OkB Z' b → OkB Z' (opening n (n + 1) (n + 2) (n + 3) (n + 4) l span b)
  unfolding writes reads
  opening_ok n l span b hn hl w = (
    (omega arith, record { written_in = tt; operands_in = tt; written_many = refl; operands_many = tt }),
    (
      (omega arith, record { written_in = tt; operands_in = (omega arith, tt); written_many = refl; operands_many = tt }),
      (
        (omega arith, record { written_in = tt; operands_in = tt; written_many = refl; operands_many = tt }),
        (
          (omega arith, record { written_in = tt; operands_in = (omega arith, (omega arith, (omega arith, tt))); written_many = refl; operands_many = tt }),
          (
            (tt, record { written_in = (omega arith, tt); operands_in = (omega arith, tt); written_many = refl; operands_many = refl }),
            ((w, hl), tt),
          ),
        ),
      ),
    ),
  )

  -- ---- the outermost scopes treated; after a part there are no more numbers than in the end
  pub record Under (e : Env) : Type 0 where
    pub ids_under : ids e ≤ Z'.identifiers
    pub blocks_under : blocks e ≤ Z'.blocks

  under : {e d : Env} → Grown e d → Under d → Under e
  under g u = record { ids_under = omega (arith, g.more_ids, u.ids_under); blocks_under = omega (arith, g.more_blocks, u.blocks_under) }

  low_scope_ok : (o : Option ℕ) (x : ℕ) (b : Block) (e : Env) → OkS Z (scope x b) → Under (after_scope o x e) → OkS Z' (low_scope rec o x b e)
  low_scope_ok None x b e w u = more_s Z Z' m (scope x b) w
  low_scope_ok (Some span) x b e w u =
      let hn : ids e + 5 ≤ Z'.identifiers = omega (arith, u.ids_under, five_more e x span) in
      let hl : blocks e < Z'.blocks = omega (arith, u.blocks_under) in
      (omega (arith, w.0, m.more_scopes), opening_ok (ids e) (blocks e) span _ hn hl (open_b_ok (ids e) (blocks e) (omega arith) hl b w.1))

  mutual
    low_s_ok : (x : Stmt) (e : Env) → OkS Z x → Under (after_s rec x e) → OkS Z' (low_s rec x e)
    low_s_ok (instruction i) e w u = more_i Z Z' m i w
    low_s_ok (scope x b) e w u = low_scope_ok (unless_recorded (rec x) (first_b rec b)) x b e w u
    low_s_ok (pruned x b) e w u = (omega (arith, w.0, m.more_scopes), low_b_ok b e w.1 u)
    low_s_ok (terminal t k) e w u = (low_t_ok t e w.0 u, more_label Z Z' m k w.1)

    low_t_ok : (t : Term) (e : Env) → OkT Z t → Under (after_t rec t e) → OkT Z' (low_t rec t e)
    low_t_ok (break l i k) e w u = omega (arith, w, m.more_blocks)
    low_t_ok (continue l i k) e w u = omega (arith, w, m.more_blocks)
    low_t_ok (return p i) e w u = more_place Z Z' m p w
    low_t_ok (throw p i) e w u = more_place Z Z' m p w
    low_t_ok (switch p cs i) e w u = (more_place Z Z' m p w.0, low_k_ok cs e w.1 u)
    low_t_ok (do_while b v i) e w u = (low_b_ok b e w.0 u, more_v Z Z' m v w.1)
    low_t_ok (while v b i) e w u = (more_v Z Z' m v w.0, low_b_ok b e w.1 u)
    low_t_ok (for a v c b i) e w u = (more_v Z Z' m a w.0, more_v Z Z' m v w.1, more_u Z Z' m c w.2, low_b_ok b e w.3 u)
    low_t_ok (for_of a v b i s) e w u = (more_v Z Z' m a w.0, more_v Z Z' m v w.1, low_b_ok b e w.2 u)
    low_t_ok (for_in v b i s) e w u = (more_v Z Z' m v w.0, low_b_ok b e w.1 u)
    low_t_ok (if p b c i) e w u = (more_place Z Z' m p w.0, low_b_ok b e w.1 (under (grow_o rec Z c _ w.2) u), low_o_ok c _ w.2 u)
    low_t_ok (label b i) e w u = low_b_ok b e w u
    low_t_ok (try b p c i) e w u = (low_b_ok b e w.0 (under (grow_b rec Z c _ w.2) u), more_target Z Z' m p w.1, low_b_ok c _ w.2 u)

    low_k_ok : (cs : Cases) (e : Env) → OkK Z cs → Under (after_k rec cs e) → OkK Z' (low_k rec cs e)
    low_k_ok knil e w u = tt
    low_k_ok (kcons t b cs) e w u = (more_target Z Z' m t w.0, low_o_ok b e w.1 (under (grow_k rec Z cs _ w.2) u), low_k_ok cs _ w.2 u)

    low_o_ok : (b : OptBlock) (e : Env) → OkO Z b → Under (after_o rec b e) → OkO Z' (low_o rec b e)
    low_o_ok no_block e w u = tt
    low_o_ok (some_block b) e w u = low_b_ok b e w u

    pub low_b_ok : (b : Block) (e : Env) → OkB Z b → Under (after_b rec b e) → OkB Z' (low_b rec b e)
    low_b_ok nil e w u = tt
    low_b_ok (cons x b) e w u = (low_s_ok x e w.0 (under (grow_b rec Z b _ w.1) u), low_b_ok b _ w.1 u)
