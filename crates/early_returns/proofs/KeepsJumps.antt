-- Every jump of the lowered function has its target: those that were there keep theirs, and an open return's break has its scope's label around it.
-- Inside a lowered scope a part has the same around it as before, and the label l.
use Rattle.std.proofs.Common.{◌≡◌, ℕ, Bool, true, false, ◌||◌, eqb, List, [], ◌∷◌, Some, None, Option, refl, eq-eqb}
use Rattle.hir.specs.declared.terminal.ReactiveLabel.{ReactiveLabel}
use Rattle.hir.specs.declared.terminal.ReactiveTerminalTargetKind.{ReactiveTerminalTargetKind}
use Rattle.hir.specs.declared.terminal.ReactiveTerminalTargetKind.TheVariants.{Implicit, Labeled, Unlabeled}
use Rattle.hir.specs.Tree.{Stmt, instruction, scope, pruned, terminal, Term, break, continue, return, throw, switch, do_while, while, for, for_of, for_in, if, label, try, Cases, knil, kcons, OptBlock, no_block, some_block, Block, nil, cons}
use Rattle.semantics.specs.Targets.{mark, mark_inside, Around, has, plus, labelled, in_switch, in_loop, hits, TgS, TgT, TgK, TgO, TgB}
use Rattle.early_returns.specs.Lowering.{Env, ids, blocks, unless_recorded, keep_recorded, first_b, open_s, open_t, open_k, open_o, open_b, low_scope, low_s, low_t, low_k, low_o, low_b, after_s, after_o}
use Rattle.early_returns.proofs.Frame.{has_right}

-- ---- more around
abbrev Carries : List ℕ → List ℕ → Type 0
Carries ls ls' = (k : ℕ) → has k ls ≡ true → has k ls' ≡ true

record Wider (l : ℕ) (a a' : Around) : Type 0 where
  labels : Carries a.labels a'.labels
  loops : Carries a.loops a'.loops
  looped : a.looped ≡ true → a'.looped ≡ true
  breaks : a.breaks ≡ true → a'.breaks ≡ true
  target : has l a'.labels ≡ true

or_keeps : (a b c : Bool) → (b ≡ true → c ≡ true) → (a || b) ≡ true → (a || c) ≡ true
or_keeps true b c f e = refl
or_keeps false b c f e = f e

plus_carries : (m : Option ℕ) (ls ls' : List ℕ) → Carries ls ls' → Carries (plus m ls) (plus m ls')
plus_carries None ls ls' c k h = c k h
plus_carries (Some j) ls ls' c k h = or_keeps (eqb k j) (has k ls) (has k ls') (c k) h

plus_has : (m : Option ℕ) (l : ℕ) (ls : List ℕ) → has l ls ≡ true → has l (plus m ls) ≡ true
plus_has None l ls h = h
plus_has (Some k) l ls h = has_right l (k ∷ []) ls h

wider_labelled : (m : Option ℕ) {l : ℕ} {a a' : Around} → Wider l a a' → Wider l (labelled m a) (labelled m a')
wider_labelled m {l} {a} {a'} w = record { labels = plus_carries m a.labels a'.labels w.labels; loops = w.loops; looped = w.looped; breaks = w.breaks; target = plus_has m l a'.labels w.target }

wider_switch : {l : ℕ} {a a' : Around} → Wider l a a' → Wider l (in_switch a) (in_switch a')
wider_switch w = record { labels = w.labels; loops = w.loops; looped = w.looped; breaks = λ e. e; target = w.target }

wider_loop : (m : Option ℕ) {l : ℕ} {a a' : Around} → Wider l a a' → Wider l (in_loop m a) (in_loop m a')
wider_loop m {l} {a} {a'} w = record { labels = w.labels; loops = plus_carries m a.loops a'.loops w.loops; looped = λ e. e; breaks = λ e. e; target = w.target }

hits_wider : (u u' : Bool) (ls ls' : List ℕ) (k : ℕ) (t : ReactiveTerminalTargetKind) → (u ≡ true → u' ≡ true) → Carries ls ls' → hits u ls k t ≡ true → hits u' ls' k t ≡ true
hits_wider u u' ls ls' k Implicit f c h = refl
hits_wider u u' ls ls' k Unlabeled f c h = f h
hits_wider u u' ls ls' k Labeled f c h = c k h

-- ---- a part that is left as it is
module _ (l : ℕ) where
  mutual
    wide_s : (x : Stmt) {a a' : Around} → Wider l a a' → TgS x a → TgS x a'
    wide_s (instruction i) w h = tt
    wide_s (scope x b) w h = wide_b b w h
    wide_s (pruned x b) w h = wide_b b w h
    wide_s (terminal t m) w h = wide_t t (mark m) (wider_labelled (mark_inside t m) w) h

    wide_t : (t : Term) (m : Option ℕ) {a a' : Around} → Wider l a a' → TgT t m a → TgT t m a'
    wide_t (break j i k) m {a} {a'} w h = hits_wider a.breaks a'.breaks a.labels a'.labels j k w.breaks w.labels h
    wide_t (continue j i k) m {a} {a'} w h = hits_wider a.looped a'.looped a.loops a'.loops j k w.looped w.loops h
    wide_t (return p i) m w h = tt
    wide_t (throw p i) m w h = tt
    wide_t (switch p cs i) m w h = wide_k cs (wider_switch w) h
    wide_t (do_while b v i) m w h = wide_b b (wider_loop m w) h
    wide_t (while v b i) m w h = wide_b b (wider_loop m w) h
    wide_t (for n v u b i) m w h = wide_b b (wider_loop m w) h
    wide_t (for_of n v b i s) m w h = wide_b b (wider_loop m w) h
    wide_t (for_in v b i s) m w h = wide_b b (wider_loop m w) h
    wide_t (if p b c i) m w h = (wide_b b w h.0, wide_o c w h.1)
    wide_t (label b i) m w h = wide_b b w h
    wide_t (try b p c i) m w h = (wide_b b w h.0, wide_b c w h.1)

    wide_k : (cs : Cases) {a a' : Around} → Wider l a a' → TgK cs a → TgK cs a'
    wide_k knil w h = tt
    wide_k (kcons t b cs) w h = (wide_o b w h.0, wide_k cs w h.1)

    wide_o : (b : OptBlock) {a a' : Around} → Wider l a a' → TgO b a → TgO b a'
    wide_o no_block w h = tt
    wide_o (some_block b) w h = wide_b b w h

    wide_b : (b : Block) {a a' : Around} → Wider l a a' → TgB b a → TgB b a'
    wide_b nil w h = tt
    wide_b (cons x b) w h = (wide_s x w h.0, wide_b b w h.1)

module _ (rec : ℕ → Option ℕ) where
  -- ---- open returns replaced
  module _ (n l : ℕ) where
    keep_lands : (o : Option ℕ) (b b' : Block) (a : Around) → TgB b a → TgB b' a → TgB (keep_recorded o b b') a
    keep_lands (Some k) b b' a p q = p
    keep_lands None b b' a p q = q

    mutual
      open_s_lands : (x : Stmt) (r : Block) {a a' : Around} → Wider l a a' → TgS x a → TgB r a' → TgB (open_s rec n l x r) a'
      open_s_lands (instruction i) r w h g = (tt, g)
      open_s_lands (scope x b) r {a} {a'} w h g = (keep_lands (rec x) b (open_b rec n l b) a' (wide_b l b w h) (open_b_lands b w h), g)
      open_s_lands (pruned x b) r w h g = (open_b_lands b w h, g)
      open_s_lands (terminal t m) r w h g = open_t_lands t m r w h g

      open_t_lands : (t : Term) (m : Option ReactiveLabel) (r : Block) {a a' : Around} → Wider l a a' → TgS (terminal t m) a → TgB r a' → TgB (open_t rec n l t m r) a'
      open_t_lands (break j i k) m r w h g = (wide_s l (terminal (break j i k) m) w h, g)
      open_t_lands (continue j i k) m r w h g = (wide_s l (terminal (continue j i k) m) w h, g)
      open_t_lands (return p i) m r w h g = (tt, (w.target, g))
      open_t_lands (throw p i) m r w h g = (tt, g)
      open_t_lands (switch p cs i) m r w h g = (open_k_lands cs (wider_switch (wider_labelled (mark m) w)) h, g)
      open_t_lands (do_while b v i) m r w h g = (open_b_lands b (wider_loop (mark m) (wider_labelled (mark m) w)) h, g)
      open_t_lands (while v b i) m r w h g = (open_b_lands b (wider_loop (mark m) (wider_labelled (mark m) w)) h, g)
      open_t_lands (for c v u b i) m r w h g = (open_b_lands b (wider_loop (mark m) (wider_labelled (mark m) w)) h, g)
      open_t_lands (for_of c v b i s) m r w h g = (open_b_lands b (wider_loop (mark m) (wider_labelled (mark m) w)) h, g)
      open_t_lands (for_in v b i s) m r w h g = (open_b_lands b (wider_loop (mark m) (wider_labelled (mark m) w)) h, g)
      open_t_lands (if p b c i) m r w h g = ((open_b_lands b (wider_labelled (mark m) w) h.0, open_o_lands c (wider_labelled (mark m) w) h.1), g)
      open_t_lands (label b i) m r w h g = (open_b_lands b (wider_labelled (mark m) w) h, g)
      open_t_lands (try b p c i) m r w h g = ((open_b_lands b (wider_labelled (mark m) w) h.0, open_b_lands c (wider_labelled (mark m) w) h.1), g)

      open_k_lands : (cs : Cases) {a a' : Around} → Wider l a a' → TgK cs a → TgK (open_k rec n l cs) a'
      open_k_lands knil w h = tt
      open_k_lands (kcons t b cs) w h = (open_o_lands b w h.0, open_k_lands cs w h.1)

      open_o_lands : (b : OptBlock) {a a' : Around} → Wider l a a' → TgO b a → TgO (open_o rec n l b) a'
      open_o_lands no_block w h = tt
      open_o_lands (some_block b) w h = open_b_lands b w h

      open_b_lands : (b : Block) {a a' : Around} → Wider l a a' → TgB b a → TgB (open_b rec n l b) a'
      open_b_lands nil w h = tt
      open_b_lands (cons x b) w h = open_s_lands x (open_b rec n l b) w h.0 (open_b_lands b w h.1)

  -- ---- the outermost scopes treated
  opened_around : (l : ℕ) (a : Around) → Wider l a (labelled (Some l) a)
  opened_around l a = record { labels = λ k h. plus_has (Some l) k a.labels h; loops = λ k h. h; looped = λ e. e; breaks = λ e. e; target = rw (eq-eqb l l refl) }

  low_scope_lands : (o : Option ℕ) (x : ℕ) (b : Block) (e : Env) (a : Around) → TgB b a → TgS (low_scope rec o x b e) a
  low_scope_lands None x b e a h = h
  low_scope_lands (Some span) x b e a h = (tt, (tt, (tt, (tt, (tt, (open_b_lands (ids e) (blocks e) b (opened_around (blocks e) a) h, tt))))))

  mutual
    low_s_lands : (x : Stmt) (e : Env) (a : Around) → TgS x a → TgS (low_s rec x e) a
    low_s_lands (instruction i) e a h = tt
    low_s_lands (scope x b) e a h = low_scope_lands (unless_recorded (rec x) (first_b rec b)) x b e a h
    low_s_lands (pruned x b) e a h = low_b_lands b e a h
    low_s_lands (terminal t m) e a h = low_t_lands t m e a h

    low_t_lands : (t : Term) (m : Option ReactiveLabel) (e : Env) (a : Around) → TgS (terminal t m) a → TgS (terminal (low_t rec t e) m) a
    low_t_lands (break j i k) m e a h = h
    low_t_lands (continue j i k) m e a h = h
    low_t_lands (return p i) m e a h = tt
    low_t_lands (throw p i) m e a h = tt
    low_t_lands (switch p cs i) m e a h = low_k_lands cs e _ h
    low_t_lands (do_while b v i) m e a h = low_b_lands b e _ h
    low_t_lands (while v b i) m e a h = low_b_lands b e _ h
    low_t_lands (for n v u b i) m e a h = low_b_lands b e _ h
    low_t_lands (for_of n v b i s) m e a h = low_b_lands b e _ h
    low_t_lands (for_in v b i s) m e a h = low_b_lands b e _ h
    low_t_lands (if p b c i) m e a h = (low_b_lands b e _ h.0, low_o_lands c _ _ h.1)
    low_t_lands (label b i) m e a h = low_b_lands b e _ h
    low_t_lands (try b p c i) m e a h = (low_b_lands b e _ h.0, low_b_lands c _ _ h.1)

    low_k_lands : (cs : Cases) (e : Env) (a : Around) → TgK cs a → TgK (low_k rec cs e) a
    low_k_lands knil e a h = tt
    low_k_lands (kcons t b cs) e a h = (low_o_lands b e a h.0, low_k_lands cs (after_o rec b e) a h.1)

    low_o_lands : (b : OptBlock) (e : Env) (a : Around) → TgO b a → TgO (low_o rec b e) a
    low_o_lands no_block e a h = tt
    low_o_lands (some_block b) e a h = low_b_lands b e a h

    pub low_b_lands : (b : Block) (e : Env) (a : Around) → TgB b a → TgB (low_b rec b e) a
    low_b_lands nil e a h = tt
    low_b_lands (cons x b) e a h = (low_s_lands x e a h.0, low_b_lands b (after_s rec x e) a h.1)
