-- The targets of jumps. A jump without target does nothing, as an implicit one: the run is of the tree in which each such one is implicit.
use Rattle.std.specs.Prelude.{◌≡◌, ℕ, Bool, true, false, ◌||◌, List, [], ◌∷◌, Some, None, Option, ◌==◌}
use Rattle.hir.specs.declared.terminal.ReactiveLabel.{ReactiveLabel}
use Rattle.hir.specs.declared.terminal.ReactiveTerminalTargetKind.{ReactiveTerminalTargetKind}
use Rattle.hir.specs.declared.terminal.ReactiveTerminalTargetKind.TheVariants.{Implicit, Labeled, Unlabeled}
use Rattle.hir.specs.Tree.{Stmt, instruction, scope, pruned, terminal, Term, break, continue, return, throw, switch, do_while, while, for, for_of, for_in, if, label, try, Cases, knil, kcons, OptBlock, no_block, some_block, Block, nil, cons}

-- the number of a label that is not implicit
abbrev pub unless_implicit : ℕ → Bool → Option ℕ
unless_implicit l true = None
unless_implicit l false = Some l

abbrev pub mark : Option ReactiveLabel → Option ℕ
mark None = None
mark (Some l) = unless_implicit l.id l.implicit

-- the label that jumps inside a terminal may name; a jump has nothing inside, and its own label is no target of it
abbrev pub mark_inside : Term → Option ReactiveLabel → Option ℕ
mark_inside (break l i k) m = None
mark_inside (continue l i k) m = None
mark_inside (return p i) m = mark m
mark_inside (throw p i) m = mark m
mark_inside (switch p cs i) m = mark m
mark_inside (do_while b v i) m = mark m
mark_inside (while v b i) m = mark m
mark_inside (for a v u b i) m = mark m
mark_inside (for_of a v b i n) m = mark m
mark_inside (for_in v b i n) m = mark m
mark_inside (if p b c i) m = mark m
mark_inside (label b i) m = mark m
mark_inside (try b p c i) m = mark m

-- what stands around: the labels, those of loops, whether there is a loop, and whether there is a loop or a switch
pub record Around : Type 0 where
  pub labels : List ℕ
  pub loops : List ℕ
  pub looped : Bool
  pub breaks : Bool

abbrev pub nowhere : Around
nowhere = record { labels = []; loops = []; looped = false; breaks = false }

abbrev pub has : ℕ → List ℕ → Bool
has l [] = false
has l (m ∷ ms) = l == m || has l ms

abbrev pub plus : Option ℕ → List ℕ → List ℕ
plus None ls = ls
plus (Some l) ls = l ∷ ls

abbrev pub labelled : Option ℕ → Around → Around
labelled m a = record { labels = plus m a.labels; loops = a.loops; looped = a.looped; breaks = a.breaks }

abbrev pub in_switch : Around → Around
in_switch a = record { labels = a.labels; loops = a.loops; looped = a.looped; breaks = true }

abbrev pub in_loop : Option ℕ → Around → Around
in_loop m a = record { labels = a.labels; loops = plus m a.loops; looped = true; breaks = true }

-- has the jump its target? u: is there one for a jump without label, ls: the labels that it may name
abbrev pub hits : Bool → List ℕ → ℕ → ReactiveTerminalTargetKind → Bool
hits u ls l Implicit = true
hits u ls l Unlabeled = u
hits u ls l Labeled = has l ls

abbrev pub or_implicit : Bool → ReactiveTerminalTargetKind → ReactiveTerminalTargetKind
or_implicit true k = k
or_implicit false k = Implicit

-- every jump has its target
abbrev mutual
  pub TgS : Stmt → Around → Type 0
  TgS (instruction i) a = Unit {0}
  TgS (scope x b) a = TgB b a
  TgS (pruned x b) a = TgB b a
  TgS (terminal t m) a = TgT t (mark m) (labelled (mark_inside t m) a)

  pub TgT : Term → Option ℕ → Around → Type 0
  TgT (break l i k) m a = hits a.breaks a.labels l k ≡ true
  TgT (continue l i k) m a = hits a.looped a.loops l k ≡ true
  TgT (return p i) m a = Unit {0}
  TgT (throw p i) m a = Unit {0}
  TgT (switch p cs i) m a = TgK cs (in_switch a)
  TgT (do_while b v i) m a = TgB b (in_loop m a)
  TgT (while v b i) m a = TgB b (in_loop m a)
  TgT (for n v u b i) m a = TgB b (in_loop m a)
  TgT (for_of n v b i s) m a = TgB b (in_loop m a)
  TgT (for_in v b i s) m a = TgB b (in_loop m a)
  TgT (if p b c i) m a = TgB b a × TgO c a
  TgT (label b i) m a = TgB b a
  TgT (try b p c i) m a = TgB b a × TgB c a

  pub TgK : Cases → Around → Type 0
  TgK knil a = Unit {0}
  TgK (kcons t b cs) a = TgO b a × TgK cs a

  pub TgO : OptBlock → Around → Type 0
  TgO no_block a = Unit {0}
  TgO (some_block b) a = TgB b a

  pub TgB : Block → Around → Type 0
  TgB nil a = Unit {0}
  TgB (cons x b) a = TgS x a × TgB b a

-- the tree in which the jumps without target are implicit
abbrev mutual
  pub aim_s : Stmt → Around → Stmt
  aim_s (instruction i) a = instruction i
  aim_s (scope x b) a = scope x (aim_b b a)
  aim_s (pruned x b) a = pruned x (aim_b b a)
  aim_s (terminal t m) a = terminal (aim_t t (mark m) (labelled (mark_inside t m) a)) m

  pub aim_t : Term → Option ℕ → Around → Term
  aim_t (break l i k) m a = break l i (or_implicit (hits a.breaks a.labels l k) k)
  aim_t (continue l i k) m a = continue l i (or_implicit (hits a.looped a.loops l k) k)
  aim_t (return p i) m a = return p i
  aim_t (throw p i) m a = throw p i
  aim_t (switch p cs i) m a = switch p (aim_k cs (in_switch a)) i
  aim_t (do_while b v i) m a = do_while (aim_b b (in_loop m a)) v i
  aim_t (while v b i) m a = while v (aim_b b (in_loop m a)) i
  aim_t (for n v u b i) m a = for n v u (aim_b b (in_loop m a)) i
  aim_t (for_of n v b i s) m a = for_of n v (aim_b b (in_loop m a)) i s
  aim_t (for_in v b i s) m a = for_in v (aim_b b (in_loop m a)) i s
  aim_t (if p b c i) m a = if p (aim_b b a) (aim_o c a) i
  aim_t (label b i) m a = label (aim_b b a) i
  aim_t (try b p c i) m a = try (aim_b b a) p (aim_b c a) i

  pub aim_k : Cases → Around → Cases
  aim_k knil a = knil
  aim_k (kcons t b cs) a = kcons t (aim_o b a) (aim_k cs a)

  pub aim_o : OptBlock → Around → OptBlock
  aim_o no_block a = no_block
  aim_o (some_block b) a = some_block (aim_b b a)

  pub aim_b : Block → Around → Block
  aim_b nil a = nil
  aim_b (cons x b) a = cons (aim_s x a) (aim_b b a)
