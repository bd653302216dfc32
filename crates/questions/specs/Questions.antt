-- What is asked of a function that was read, and which statements have a no. Assumes nothing.
use Rattle.std.specs.Prelude.{ℕ, suc, Bool, true, false, cond, not, ◌&&◌, ◌||◌, List, [], ◌∷◌, ◌++◌, length, Some, None, Option, ◌==◌, nat_lt}
use Rattle.std.specs.List.{list_all}
use Rattle.hir.specs.declared.place.Place.{Place}
use Rattle.hir.specs.declared.terminal.ReactiveLabel.{ReactiveLabel}
use Rattle.hir.specs.declared.environment.Identifier.{Identifier}
use Rattle.hir.specs.declared.environment.ReactiveScopeEarlyReturn.{ReactiveScopeEarlyReturn}
use Rattle.hir.specs.declared.environment.ReactiveScopeDeclaration.{ReactiveScopeDeclaration}
use Rattle.hir.specs.Tree.{Op, Val, operation, logical, conditional, sequence, optional, OptVal, no_val, some_val, Instr, instr, Instrs, inil, icons, Stmt, instruction, scope, pruned, terminal, Term, break, continue, return, throw, switch, do_while, while, for, for_of, for_in, if, label, try, Cases, knil, kcons, OptBlock, no_block, some_block, Block, nil, cons, ScopeInfo, Function}
use Rattle.semantics.specs.Targets.{Around, nowhere, mark, mark_inside, plus, labelled, in_switch, in_loop, hits}
use Rattle.questions.specs.declared.line.Bounds.{Bounds}
use Rattle.questions.specs.declared.line.Line.{Line}

abbrev pub bounds_of : Function → Bounds
bounds_of F =
    record {
      identifiers = length F.identifiers;
      scopes = length F.scopes;
      blocks = F.counters.blocks;
      types = F.counters.types;
      ranges = F.counters.ranges;
    }

-- ---- identifiers in their table, labels and targets below the counter of blocks

abbrev pub place_in : Bounds → Place → Bool
place_in B p = nat_lt p.identifier B.identifiers

abbrev pub opt_place_in : Bounds → Option Place → Bool
opt_place_in B None = true
opt_place_in B (Some p) = place_in B p

abbrev pub op_in : Bounds → Op → Bool
op_in B o = list_all (place_in B) o.written && list_all (place_in B) o.operands

abbrev pub ops_in : Bounds → List Op → Bool
ops_in B os = list_all (op_in B) os

-- an implicit label too
abbrev pub label_in : Bounds → Option ReactiveLabel → Bool
label_in B None = true
label_in B (Some l) = nat_lt l.id B.blocks

abbrev pub tests_in : Bounds → Cases → Bool
tests_in B knil = true
tests_in B (kcons t b cs) = opt_place_in B t && tests_in B cs

-- a terminal's places and its target, without its values
abbrev pub term_in : Bounds → Term → Bool
term_in B (break l i k) = nat_lt l B.blocks
term_in B (continue l i k) = nat_lt l B.blocks
term_in B (return p i) = place_in B p
term_in B (throw p i) = place_in B p
term_in B (switch p cs i) = place_in B p && tests_in B cs
term_in B (do_while b v i) = true
term_in B (while v b i) = true
term_in B (for n v u b i) = true
term_in B (for_of n v b i s) = true
term_in B (for_in v b i s) = true
term_in B (if p b c i) = place_in B p
term_in B (label b i) = true
term_in B (try b p c i) = opt_place_in B p

-- ---- written places and operands as kinds ask

abbrev pub among : ℕ → List ℕ → Bool
among k [] = false
among k (n ∷ ns) = k == n || among k ns

-- kinds 2 to 5, 37 and 38 write one place, kind 6 any number, the others none
abbrev pub writes_well : ℕ → ℕ → Bool
writes_well k n = cond (among k (2 ∷ 3 ∷ 4 ∷ 5 ∷ 37 ∷ 38 ∷ [])) (n == 1) (cond (k == 6) true (n == 0))

-- kinds 0, 1, 4, 37 and 38 have one operand, kind 5 two, 2 and 3 none
abbrev pub reads_well : ℕ → ℕ → Bool
reads_well k n = cond (among k (0 ∷ 1 ∷ 4 ∷ 37 ∷ 38 ∷ [])) (n == 1) (cond (k == 5) (n == 2) (cond (among k (2 ∷ 3 ∷ [])) (n == 0) true))

abbrev pub shaped : Op → Bool
shaped o = writes_well o.kind (length o.written) && reads_well o.kind (length o.operands)

abbrev pub in_shape : List Op → Bool
in_shape os = list_all shaped os

-- ---- the operations of a statement's own

-- those of a value, without those of a sequence's instructions, which are statements of their own
abbrev pub val_ops : Val → List Op
val_ops (operation o) = o ∷ []
val_ops (logical o a b) = val_ops a ++ val_ops b
val_ops (conditional c a b) = val_ops c ++ (val_ops a ++ val_ops b)
val_ops (sequence is i v) = val_ops v
val_ops (optional v o) = val_ops v

abbrev pub opt_val_ops : OptVal → List Op
opt_val_ops no_val = []
opt_val_ops (some_val v) = val_ops v

abbrev pub term_ops : Term → List Op
term_ops (break l i k) = []
term_ops (continue l i k) = []
term_ops (return p i) = []
term_ops (throw p i) = []
term_ops (switch p cs i) = []
term_ops (do_while b v i) = val_ops v
term_ops (while v b i) = val_ops v
term_ops (for n v u b i) = val_ops n ++ (val_ops v ++ opt_val_ops u)
term_ops (for_of n v b i s) = val_ops n ++ val_ops v
term_ops (for_in v b i s) = val_ops v
term_ops (if p b c i) = []
term_ops (label b i) = []
term_ops (try b p c i) = []

-- ---- targets: what stands around a jump is without its own label

abbrev pub term_aims : Term → Around → Bool
term_aims (break l i k) a = hits a.breaks a.labels l k
term_aims (continue l i k) a = hits a.looped a.loops l k
term_aims (return p i) a = true
term_aims (throw p i) a = true
term_aims (switch p cs i) a = true
term_aims (do_while b v i) a = true
term_aims (while v b i) a = true
term_aims (for n v u b i) a = true
term_aims (for_of n v b i s) a = true
term_aims (for_in v b i s) a = true
term_aims (if p b c i) a = true
term_aims (label b i) a = true
term_aims (try b p c i) a = true

-- ---- a statement's answers, of what it has of its own, without what the statements inside it have

abbrev pub instr_line : Bounds → Option Place → List Op → Line
instr_line B l os = record { numbers = opt_place_in B l && ops_in B os; shapes = in_shape os; targets = true; owns = None }

abbrev pub scope_line : Bounds → ℕ → Option ℕ → Line
scope_line B x o = record { numbers = nat_lt x B.scopes; shapes = true; targets = true; owns = o }

abbrev pub term_line : Bounds → Term → Option ReactiveLabel → Around → Line
term_line B t m a = record { numbers = label_in B m && (term_in B t && ops_in B (term_ops t)); shapes = in_shape (term_ops t); targets = term_aims t a; owns = None }

-- the statements inside a value, in file order
abbrev mutual
  pub val_lines : Bounds → Val → List Line
  val_lines B (operation o) = []
  val_lines B (logical o a b) = val_lines B a ++ val_lines B b
  val_lines B (conditional c a b) = val_lines B c ++ (val_lines B a ++ val_lines B b)
  val_lines B (sequence is i v) = instrs_lines B is ++ val_lines B v
  val_lines B (optional v o) = val_lines B v

  pub instr_lines : Bounds → Instr → List Line
  instr_lines B (instr i l v s) = instr_line B l (val_ops v) ∷ val_lines B v

  pub instrs_lines : Bounds → Instrs → List Line
  instrs_lines B inil = []
  instrs_lines B (icons i is) = instr_lines B i ++ instrs_lines B is

abbrev pub opt_val_lines : Bounds → OptVal → List Line
opt_val_lines B no_val = []
opt_val_lines B (some_val v) = val_lines B v

-- the statements of a block and inside it, in file order, in their surroundings
abbrev mutual
  pub stmt_lines : Bounds → Stmt → Around → List Line
  stmt_lines B (instruction i) a = instr_lines B i
  stmt_lines B (scope x b) a = scope_line B x (Some x) ∷ block_lines B b a
  stmt_lines B (pruned x b) a = scope_line B x None ∷ block_lines B b a
  stmt_lines B (terminal t m) a = term_line B t m a ∷ term_lines B t (mark m) (labelled (mark_inside t m) a)

  pub term_lines : Bounds → Term → Option ℕ → Around → List Line
  term_lines B (break l i k) m a = []
  term_lines B (continue l i k) m a = []
  term_lines B (return p i) m a = []
  term_lines B (throw p i) m a = []
  term_lines B (switch p cs i) m a = cases_lines B cs (in_switch a)
  term_lines B (do_while b v i) m a = block_lines B b (in_loop m a) ++ val_lines B v
  term_lines B (while v b i) m a = val_lines B v ++ block_lines B b (in_loop m a)
  term_lines B (for n v u b i) m a = val_lines B n ++ (val_lines B v ++ (opt_val_lines B u ++ block_lines B b (in_loop m a)))
  term_lines B (for_of n v b i s) m a = val_lines B n ++ (val_lines B v ++ block_lines B b (in_loop m a))
  term_lines B (for_in v b i s) m a = val_lines B v ++ block_lines B b (in_loop m a)
  term_lines B (if p b c i) m a = block_lines B b a ++ opt_block_lines B c a
  term_lines B (label b i) m a = block_lines B b a
  term_lines B (try b p c i) m a = block_lines B b a ++ block_lines B c a

  pub cases_lines : Bounds → Cases → Around → List Line
  cases_lines B knil a = []
  cases_lines B (kcons t b cs) a = opt_block_lines B b a ++ cases_lines B cs a

  pub opt_block_lines : Bounds → OptBlock → Around → List Line
  opt_block_lines B no_block a = []
  opt_block_lines B (some_block b) a = block_lines B b a

  pub block_lines : Bounds → Block → Around → List Line
  block_lines B nil a = []
  block_lines B (cons s b) a = stmt_lines B s a ++ block_lines B b a

-- ---- the questions, of the tables

abbrev pub opt_below : Option ℕ → ℕ → Bool
opt_below None n = true
opt_below (Some x) n = nat_lt x n

abbrev pub identifier_in : Bounds → Identifier → Bool
identifier_in B i =
    nat_lt i.declaration B.identifiers && (nat_lt i.range B.ranges && (opt_below i.scope B.scopes && nat_lt i.kind B.types))

abbrev pub early_in : Bounds → Option ReactiveScopeEarlyReturn → Bool
early_in B None = true
early_in B (Some r) = nat_lt r.value B.identifiers && nat_lt r.label B.blocks

abbrev pub declaration_in : Bounds → ReactiveScopeDeclaration → Bool
declaration_in B d = nat_lt d.key B.identifiers && (nat_lt d.identifier B.identifiers && nat_lt d.scope B.scopes)

abbrev pub scope_in : Bounds → ScopeInfo → Bool
scope_in B s = early_in B s.early && list_all (declaration_in B) s.declarations

abbrev pub unrecorded : Option ReactiveScopeEarlyReturn → Bool
unrecorded None = true
unrecorded (Some r) = false

-- ---- the faulty places: 0 for the tables, ahead of the statements by their numbers

-- the numbers, from n on, of the lines that fail a test
abbrev pub failing : (Line → Bool) → ℕ → List Line → List ℕ
failing test n [] = []
failing test n (l ∷ ls) = cond (test l) (failing test (suc n) ls) (n ∷ failing test (suc n) ls)

-- is it no Scope block of one of the scopes that were seen?
abbrev pub first_owned : List ℕ → Option ℕ → Bool
first_owned seen None = true
first_owned seen (Some x) = not (among x seen)

-- of a scope's Scope blocks all but the first are faulty
abbrev pub repeating : List ℕ → ℕ → List Line → List ℕ
repeating seen n [] = []
repeating seen n (l ∷ ls) = cond (first_owned seen l.owns) (repeating (plus l.owns seen) (suc n) ls) (n ∷ repeating (plus l.owns seen) (suc n) ls)

abbrev pub table_fault : Bool → List ℕ
table_fault true = []
table_fault false = 0 ∷ []

abbrev pub lines : Function → List Line
lines F = block_lines (bounds_of F) F.body nowhere

-- are identifiers, declarations and scopes in their tables, and types, ranges, labels and targets below their counters?
unfoldable pub out_of_range : Function → List ℕ
out_of_range F = table_fault (list_all (identifier_in (bounds_of F)) F.identifiers && list_all (scope_in (bounds_of F)) F.scopes) ++ failing (λ l. l.numbers) 0 (lines F)

-- has every operation the written places and the operands that its kind asks?
unfoldable pub out_of_shape : Function → List ℕ
out_of_shape F = failing (λ l. l.shapes) 0 (lines F)

-- has every labeled or unlabeled Break and Continue its target around it?
unfoldable pub without_target : Function → List ℕ
without_target F = failing (λ l. l.targets) 0 (lines F)

-- has every scope no record and at most one Scope block?
unfoldable pub scoped_twice : Function → List ℕ
scoped_twice F = table_fault (list_all (λ s. unrecorded s.early) F.scopes) ++ repeating [] 0 (lines F)
