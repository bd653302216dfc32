-- What holds of the environment through the treatment of each scope holds through a part of the tree.
-- So numbers only grow, and the table of scopes keeps its length.
use Rattle.std.proofs.Common.{◌≡◌, ℕ, ◌+◌, ◌<◌, ◌≤◌, length, Some, None, Option, refl, ◌∙◌, arith, length-append}
use Rattle.hir.specs.Tree.{Stmt, instruction, scope, pruned, terminal, Term, break, continue, return, throw, switch, do_while, while, for, for_of, for_in, if, label, try, Cases, knil, kcons, OptBlock, no_block, some_block, Block, nil, cons}
use Rattle.simulation.specs.WellFormed.{Sizes, OkS, OkT, OkK, OkO, OkB}
use Rattle.early_returns.specs.Lowering.{Env, ids, blocks, five, unless_recorded, first_b, after_scope, after_s, after_t, after_k, after_o, after_b}
use Rattle.early_returns.proofs.Again.{change_length}

module _ (rec : ℕ → Option ℕ) (Z : Sizes) (I : Env → Type 0) (step : (o : Option ℕ) (x : ℕ) (e : Env) → x < Z.scopes → I e → I (after_scope o x e)) where
  mutual
    pub through_s : (x : Stmt) (e : Env) → OkS Z x → I e → I (after_s rec x e)
    through_s (instruction i) e w h = h
    through_s (scope x b) e w h = step (unless_recorded (rec x) (first_b rec b)) x e w.0 h
    through_s (pruned x b) e w h = through_b b e w.1 h
    through_s (terminal t m) e w h = through_t t e w.0 h

    pub through_t : (t : Term) (e : Env) → OkT Z t → I e → I (after_t rec t e)
    through_t (break l i k) e w h = h
    through_t (continue l i k) e w h = h
    through_t (return p i) e w h = h
    through_t (throw p i) e w h = h
    through_t (switch p cs i) e w h = through_k cs e w.1 h
    through_t (do_while b v i) e w h = through_b b e w.0 h
    through_t (while v b i) e w h = through_b b e w.1 h
    through_t (for a v u b i) e w h = through_b b e w.3 h
    through_t (for_of a v b i n) e w h = through_b b e w.2 h
    through_t (for_in v b i n) e w h = through_b b e w.1 h
    through_t (if p b c i) e w h = through_o c _ w.2 (through_b b e w.1 h)
    through_t (label b i) e w h = through_b b e w h
    through_t (try b p c i) e w h = through_b c _ w.2 (through_b b e w.0 h)

    pub through_k : (cs : Cases) (e : Env) → OkK Z cs → I e → I (after_k rec cs e)
    through_k knil e w h = h
    through_k (kcons t b cs) e w h = through_k cs _ w.2 (through_o b e w.1 h)

    pub through_o : (b : OptBlock) (e : Env) → OkO Z b → I e → I (after_o rec b e)
    through_o no_block e w h = h
    through_o (some_block b) e w h = through_b b e w h

    pub through_b : (b : Block) (e : Env) → OkB Z b → I e → I (after_b rec b e)
    through_b nil e w h = h
    through_b (cons x b) e w h = through_b b _ w.1 (through_s x e w.0 h)

-- the numbers of e are at most those of f
pub record Grown (e f : Env) : Type 0 where
  pub more_ids : ids e ≤ ids f
  pub more_blocks : blocks e ≤ blocks f
  pub more_types : e.counters.types ≤ f.counters.types
  pub more_ranges : e.counters.ranges ≤ f.counters.ranges
  pub same_scopes : length f.scopes ≡ length e.scopes

pub grown_here : (e : Env) → Grown e e
grown_here e = record { more_ids = omega arith; more_blocks = omega arith; more_types = omega arith; more_ranges = omega arith; same_scopes = refl }

pub five_more : (e : Env) (x span : ℕ) → ids (after_scope (Some span) x e) ≡ ids e + 5
five_more e x span = length-append e.identifiers (five (ids e) e.counters.types e.counters.ranges span)

grown_step : (d : Env) (o : Option ℕ) (x : ℕ) (e : Env) → Grown d e → Grown d (after_scope o x e)
grown_step d None x e h = h
grown_step d (Some span) x e h = record {
  more_ids = omega (arith, h.more_ids, five_more e x span);
  more_blocks = omega (arith, h.more_blocks);
  more_types = omega (arith, h.more_types);
  more_ranges = omega (arith, h.more_ranges);
  same_scopes = change_length e.scopes x _ ∙ h.same_scopes;
}

module _ (rec : ℕ → Option ℕ) (Z : Sizes) where
  pub grow_s : (x : Stmt) (e : Env) → OkS Z x → Grown e (after_s rec x e)
  grow_s x e w = through_s rec Z (Grown e) (λ o x f k h. grown_step e o x f h) x e w (grown_here e)

  pub grow_k : (cs : Cases) (e : Env) → OkK Z cs → Grown e (after_k rec cs e)
  grow_k cs e w = through_k rec Z (Grown e) (λ o x f k h. grown_step e o x f h) cs e w (grown_here e)

  pub grow_o : (b : OptBlock) (e : Env) → OkO Z b → Grown e (after_o rec b e)
  grow_o b e w = through_o rec Z (Grown e) (λ o x f k h. grown_step e o x f h) b e w (grown_here e)

  pub grow_b : (b : Block) (e : Env) → OkB Z b → Grown e (after_b rec b e)
  grow_b b e w = through_b rec Z (Grown e) (λ o x f k h. grown_step e o x f h) b e w (grown_here e)
