-- What the slots of an arena stand for, at most so deep, and the rows that loops go over. Assumes nothing.
use Rattle.std.specs.Prelude.{ℕ, List, Option}
use Rattle.hir.specs.declared.range.Range.{Range}
use Rattle.hir.specs.Options.{bind, part}
use Rattle.hir.specs.declared.terminal.ReactiveLabel.{ReactiveLabel}
use Rattle.hir.specs.declared.terminal.ReactiveTerminal.{ReactiveTerminal}
use Rattle.hir.specs.Decode.{ValueSlots, Slots, top_value, instrs_of, value_of, opt_block_of, cases_of, term_of, slot_of, body_of, block_of}
use Rattle.hir.specs.Tree.{Instrs, Stmt, terminal, Term, Cases, OptBlock, Block}
use Rattle.semantics.specs.Targets.{Around}
use Rattle.questions.specs.declared.line.Bounds.{Bounds}
use Rattle.questions.specs.declared.line.Line.{Line}
use Rattle.questions.specs.declared.pass.Pass.{Pass}
use Rattle.questions.specs.Pass.{slots_in, values_in}
use Rattle.questions.specs.Questions.{stmt_lines}

abbrev pub instrs_in : ℕ → ValueSlots → Range → Option Instrs
instrs_in d a r = bind (part a.instructions r) (instrs_of (value_of d a))

abbrev pub cases_in : ℕ → Slots → Range → Option Cases
cases_in d a r = bind (part a.cases r) (cases_of (block_of d a))

abbrev pub body_in : ℕ → Slots → Range → Option Block
body_in d a r = bind (part a.entries r) (body_of (slot_of a (block_of d a)))

-- the lines of a terminal with its label
abbrev pub labelled_lines : Bounds → Option ReactiveLabel → Around → Term → List Line
labelled_lines B m a t = stmt_lines B (terminal t m) a

-- ---- of a pass

abbrev pub block_at : ℕ → Pass → Range → Option Block
block_at d p r = block_of d (slots_in p) r

abbrev pub optional_at : ℕ → Pass → Option Range → Option OptBlock
optional_at d p o = opt_block_of (block_of d (slots_in p)) o

abbrev pub cases_at : ℕ → Pass → Range → Option Cases
cases_at d p r = cases_in d (slots_in p) r

abbrev pub terminal_at : ℕ → Pass → ReactiveTerminal → Option Term
terminal_at d p t = term_of (slots_in p) (top_value (values_in p)) (block_of d (slots_in p)) t

abbrev pub statement_at : ℕ → Pass → ℕ → Option Stmt
statement_at d p k = slot_of (slots_in p) (block_of d (slots_in p)) k
