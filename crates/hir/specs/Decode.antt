-- What slots stand for: `None` where a link leads nowhere, or deeper than the depth. Assumes nothing.
use Rattle.std.specs.Prelude.{ℕ, zero, suc, List, [], ◌∷◌, Some, None, Option}
use Rattle.hir.specs.declared.place.Place.{Place}
use Rattle.hir.specs.declared.range.Range.{Range}
use Rattle.hir.specs.declared.value.InstructionValue.{InstructionValue}
use Rattle.hir.specs.declared.value.ReactiveValue.{ReactiveValue}
use Rattle.hir.specs.declared.value.ReactiveValue.TheVariants.{Instruction as Inst, LogicalExpression, ConditionalExpression, SequenceExpression, OptionalExpression}
use Rattle.hir.specs.declared.value.ReactiveInstruction.{ReactiveInstruction}
use Rattle.hir.specs.declared.statement.ReactiveStatement.{ReactiveStatement}
use Rattle.hir.specs.declared.statement.ReactiveStatement.TheVariants.{Instruction, Terminal, Scope, PrunedScope}
use Rattle.hir.specs.declared.terminal.ReactiveTerminal.{ReactiveTerminal}
use Rattle.hir.specs.declared.terminal.ReactiveTerminal.TheVariants.{Break, Continue, Return, Throw, Switch, DoWhile, While, For, ForOf, ForIn, If, Label, Try}
use Rattle.hir.specs.declared.terminal.ReactiveSwitchCase.{ReactiveSwitchCase}
use Rattle.hir.specs.Options.{bind, nth, part}
use Rattle.hir.specs.Tree.{Op, Val, operation, logical, conditional, sequence, optional, OptVal, no_val, some_val, Instr, instr, Instrs, inil, icons, Stmt, instruction, scope, pruned, terminal, Term, break, continue, return, throw, switch, do_while, while, for, for_of, for_in, if, label, try, Cases, knil, kcons, OptBlock, no_block, some_block, Block, nil, cons}

-- the tables of slots
pub record ValueSlots : Type 0 where
  pub values : List ReactiveValue
  pub instructions : List ReactiveInstruction
  pub places : List Place

pub record Slots : Type 0 where
  pub inner : ValueSlots
  pub statements : List ReactiveStatement
  pub entries : List ℕ
  pub cases : List ReactiveSwitchCase

-- ---- values: `val` decodes the slots of the values inside
abbrev pub op_of : ValueSlots → InstructionValue → Option Op
op_of a v =
    bind (part a.places v.written) (λ w.
    bind (part a.places v.operands) (λ o.
    Some (record { kind = v.kind; payload = v.payload; written = w; operands = o; span = v.span })))

abbrev pub instr_of : (ℕ → Option Val) → ReactiveInstruction → Option Instr
instr_of val i = bind (val i.value) (λ v. Some (instr i.id i.lvalue v i.span))

abbrev pub instrs_of : (ℕ → Option Val) → List ReactiveInstruction → Option Instrs
instrs_of val [] = Some inil
instrs_of val (i ∷ is) = bind (instr_of val i) (λ x. bind (instrs_of val is) (λ xs. Some (icons x xs)))

abbrev pub val_of : ValueSlots → (ℕ → Option Val) → ReactiveValue → Option Val
val_of a val (Inst v) = bind (op_of a v) (λ o. Some (operation o))
val_of a val (LogicalExpression o l r) = bind (val l) (λ x. bind (val r) (λ y. Some (logical o x y)))
val_of a val (ConditionalExpression t l r) = bind (val t) (λ x. bind (val l) (λ y. bind (val r) (λ z. Some (conditional x y z))))
val_of a val (SequenceExpression is i v) = bind (part a.instructions is) (λ l. bind (instrs_of val l) (λ xs. bind (val v) (λ x. Some (sequence xs i x))))
val_of a val (OptionalExpression v o) = bind (val v) (λ x. Some (optional x o))

-- the value in a slot, at most d deep
abbrev pub value_of : ℕ → ValueSlots → ℕ → Option Val
value_of zero a k = None
value_of (suc d) a k = bind (nth a.values k) (val_of a (value_of d a))

-- A statement's values are at most 64 deep. It is shut, since a proof would otherwise compute with all 64 at once.
unfoldable pub top_value : ValueSlots → ℕ → Option Val
top_value a k = value_of 64 a k

-- ---- statements: `val` decodes the slots of values, `block` the blocks inside
abbrev pub opt_value_of : (ℕ → Option Val) → Option ℕ → Option OptVal
opt_value_of val None = Some no_val
opt_value_of val (Some k) = bind (val k) (λ v. Some (some_val v))

abbrev pub opt_block_of : (Range → Option Block) → Option Range → Option OptBlock
opt_block_of block None = Some no_block
opt_block_of block (Some r) = bind (block r) (λ b. Some (some_block b))

abbrev pub cases_of : (Range → Option Block) → List ReactiveSwitchCase → Option Cases
cases_of block [] = Some knil
cases_of block (c ∷ cs) = bind (opt_block_of block c.block) (λ b. bind (cases_of block cs) (λ ks. Some (kcons c.test b ks)))

abbrev pub term_of : Slots → (ℕ → Option Val) → (Range → Option Block) → ReactiveTerminal → Option Term
term_of a val block (Break l i k) = Some (break l i k)
term_of a val block (Continue l i k) = Some (continue l i k)
term_of a val block (Return p i) = Some (return p i)
term_of a val block (Throw p i) = Some (throw p i)
term_of a val block (Switch p cs i) = bind (part a.cases cs) (λ l. bind (cases_of block l) (λ ks. Some (switch p ks i)))
term_of a val block (DoWhile b v i) = bind (block b) (λ x. bind (val v) (λ y. Some (do_while x y i)))
term_of a val block (While v b i) = bind (val v) (λ y. bind (block b) (λ x. Some (while y x i)))
term_of a val block (For n v u b i) = bind (val n) (λ w. bind (val v) (λ x. bind (opt_value_of val u) (λ y. bind (block b) (λ z. Some (for w x y z i)))))
term_of a val block (ForOf n v b i s) = bind (val n) (λ w. bind (val v) (λ x. bind (block b) (λ z. Some (for_of w x z i s))))
term_of a val block (ForIn v b i s) = bind (val v) (λ x. bind (block b) (λ z. Some (for_in x z i s)))
term_of a val block (If p b c i) = bind (block b) (λ x. bind (opt_block_of block c) (λ y. Some (if p x y i)))
term_of a val block (Label b i) = bind (block b) (λ x. Some (label x i))
term_of a val block (Try b p c i) = bind (block b) (λ x. bind (block c) (λ y. Some (try x p y i)))

abbrev pub stmt_of : Slots → (ℕ → Option Val) → (Range → Option Block) → ReactiveStatement → Option Stmt
stmt_of a val block (Instruction i) = bind (instr_of val i) (λ x. Some (instruction x))
stmt_of a val block (Terminal t) = bind (term_of a val block t.terminal) (λ x. Some (terminal x t.label))
stmt_of a val block (Scope b) = bind (block b.instructions) (λ x. Some (scope b.scope x))
stmt_of a val block (PrunedScope b) = bind (block b.instructions) (λ x. Some (pruned b.scope x))

-- the statements in the slots
abbrev pub body_of : (ℕ → Option Stmt) → List ℕ → Option Block
body_of slot [] = Some nil
body_of slot (k ∷ ks) = bind (slot k) (λ s. bind (body_of slot ks) (λ t. Some (cons s t)))

abbrev pub slot_of : Slots → (Range → Option Block) → ℕ → Option Stmt
slot_of a block k = bind (nth a.statements k) (stmt_of a (top_value a.inner) block)

-- a block, at most d deep
abbrev pub block_of : ℕ → Slots → Range → Option Block
block_of zero a r = None
block_of (suc d) a r = bind (part a.entries r) (body_of (slot_of a (block_of d a)))

-- the whole tree is at most 64 blocks deep
unfoldable pub root_of : Slots → Range → Option Block
root_of a r = block_of 64 a r
