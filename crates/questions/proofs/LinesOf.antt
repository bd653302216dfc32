-- The lines of a function: as many as its statements, and a Scope block whose numbers are in range owns a scope of the table.
use Rattle.std.proofs.Common.{◌≡◌, ℕ, ◌+◌, Bool, true, not, ◌&&◌, ◌||◌, ltb, List, [], ◌∷◌, ◌++◌, length, Some, None, Option, refl, ◌∙◌, ap₂, arith, length-append}
use Rattle.std.specs.List.{list_all}
use Rattle.std.proofs.Math.Bool.{or-not_self}
use Rattle.std.proofs.lemmas.List.Folds.{list_all-append}
use Rattle.hir.specs.declared.place.Place.{Place}
use Rattle.hir.specs.Sizes.{val_size, instr_size, instrs_size, opt_val_size, opt_place_size, stmt_size, term_size, cases_size, opt_block_size, block_size}
use Rattle.hir.specs.Tree.{Val, operation, logical, conditional, sequence, optional, OptVal, no_val, some_val, Instr, instr, Instrs, inil, icons, Stmt, instruction, scope, pruned, terminal, Term, break, continue, return, throw, switch, do_while, while, for, for_of, for_in, if, label, try, Cases, knil, kcons, OptBlock, no_block, some_block, Block, nil, cons}
use Rattle.semantics.specs.Targets.{Around, mark, mark_inside, labelled, in_switch, in_loop}
use Rattle.questions.specs.declared.line.Bounds.{Bounds}
use Rattle.questions.specs.declared.line.Line.{Line}
use Rattle.questions.specs.Questions.{opt_below, val_lines, instr_lines, instrs_lines, opt_val_lines, stmt_lines, term_lines, cases_lines, opt_block_lines, block_lines}

-- n lines, each of which owns a scope of the table unless its numbers are out of range
abbrev pub owned_in : Bounds → Line → Bool
owned_in B l = opt_below l.owns B.scopes || not l.numbers

pub record Lines (B : Bounds) (ls : List Line) (n : ℕ) : Type 0 where
  pub long : length ls ≡ n
  pub owned : list_all (owned_in B) ls ≡ true

none : {B : Bounds} → Lines B [] 0
none = record { long = refl; owned = refl }

both : {B : Bounds} {xs ys : List Line} {m n : ℕ} → Lines B xs m → Lines B ys n → Lines B (xs ++ ys) (m + n)
both {B} {xs} {ys} {m} {n} p q = record { long = length-append xs ys ∙ ap₂ ◌+◌ p.long q.long; owned = list_all-append (owned_in B) xs ys ∙ ap₂ ◌&&◌ p.owned q.owned }

more : {B : Bounds} (l : Line) {xs : List Line} {n : ℕ} → owned_in B l ≡ true → Lines B xs n → Lines B (l ∷ xs) (1 + n)
more {B} l {xs} {n} o p = record { long = (let e = p.long in omega arith); owned = ap₂ ◌&&◌ o p.owned }

as_many : {B : Bounds} {xs : List Line} {m n : ℕ} → m ≡ n → Lines B xs m → Lines B xs n
as_many {B} {xs} e p = record { long = p.long ∙ e; owned = p.owned }

no_places : (l : Option Place) → (opt_place_size l).statements ≡ 0
no_places None = refl
no_places (Some p) = refl

mutual
  val_count : (B : Bounds) (v : Val) → Lines B (val_lines B v) (val_size v).statements
  val_count B (operation o) = none
  val_count B (logical o x y) = as_many (omega arith) (both (val_count B x) (val_count B y))
  val_count B (conditional w x y) = as_many (omega arith) (both (val_count B w) (both (val_count B x) (val_count B y)))
  val_count B (sequence is i x) = as_many (omega arith) (both (instrs_count B is) (val_count B x))
  val_count B (optional x o) = as_many (omega arith) (val_count B x)

  instr_count : (B : Bounds) (i : Instr) → Lines B (instr_lines B i) (1 + (instr_size i).statements)
  instr_count B (instr i l v n) = as_many (let z = no_places l in omega arith) (more _ refl (val_count B v))

  instrs_count : (B : Bounds) (is : Instrs) → Lines B (instrs_lines B is) (instrs_size is).statements
  instrs_count B inil = none
  instrs_count B (icons i is) = as_many (omega arith) (both (instr_count B i) (instrs_count B is))

opt_val_count : (B : Bounds) (v : OptVal) → Lines B (opt_val_lines B v) (opt_val_size v).statements
opt_val_count B no_val = none
opt_val_count B (some_val v) = val_count B v

mutual
  stmt_count : (B : Bounds) (x : Stmt) (s : Around) → Lines B (stmt_lines B x s) (1 + (stmt_size x).statements)
  stmt_count B (instruction i) s = instr_count B i
  stmt_count B (terminal t m) s = more _ refl (term_count B t (mark m) (labelled (mark_inside t m) s))
  stmt_count B (scope x b) s = more _ (or-not_self (ltb x B.scopes)) (block_count B b s)
  stmt_count B (pruned x b) s = more _ refl (block_count B b s)

  term_count : (B : Bounds) (t : Term) (m : Option ℕ) (s : Around) → Lines B (term_lines B t m s) (term_size t).statements
  term_count B (break l i k) m s = none
  term_count B (continue l i k) m s = none
  term_count B (return p i) m s = none
  term_count B (throw p i) m s = none
  term_count B (switch p cs i) m s = as_many (omega arith) (cases_count B cs (in_switch s))
  term_count B (do_while b v i) m s = both (block_count B b (in_loop m s)) (val_count B v)
  term_count B (while v b i) m s = both (val_count B v) (block_count B b (in_loop m s))
  term_count B (for n v u b i) m s = both (val_count B n) (both (val_count B v) (both (opt_val_count B u) (block_count B b (in_loop m s))))
  term_count B (for_of n v b i z) m s = both (val_count B n) (both (val_count B v) (block_count B b (in_loop m s)))
  term_count B (for_in v b i z) m s = both (val_count B v) (block_count B b (in_loop m s))
  term_count B (if p b c i) m s = as_many (omega arith) (both (block_count B b s) (opt_block_count B c s))
  term_count B (label b i) m s = block_count B b s
  term_count B (try b p c i) m s = as_many (let z = no_places p in omega arith) (both (block_count B b s) (block_count B c s))

  cases_count : (B : Bounds) (cs : Cases) (s : Around) → Lines B (cases_lines B cs s) (cases_size cs).statements
  cases_count B knil s = none
  cases_count B (kcons t b cs) s = as_many (let z = no_places t in omega arith) (both (opt_block_count B b s) (cases_count B cs s))

  opt_block_count : (B : Bounds) (b : OptBlock) (s : Around) → Lines B (opt_block_lines B b s) (opt_block_size b).statements
  opt_block_count B no_block s = none
  opt_block_count B (some_block b) s = block_count B b s

  pub block_count : (B : Bounds) (b : Block) (s : Around) → Lines B (block_lines B b s) (block_size b).statements
  block_count B nil s = none
  block_count B (cons x b) s = as_many (omega arith) (both (stmt_count B x s) (block_count B b s))
