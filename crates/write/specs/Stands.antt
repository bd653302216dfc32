-- What the parts of an arena stand for, with d blocks of depth left for the blocks inside. Assumes nothing.
use Rattle.std.specs.Prelude.{ℕ, List, Option}
use Rattle.hir.specs.declared.arena.Arena.{Arena}
use Rattle.hir.specs.declared.range.Range.{Range}
use Rattle.hir.specs.declared.statement.ReactiveStatement.{ReactiveStatement}
use Rattle.hir.specs.declared.terminal.ReactiveSwitchCase.{ReactiveSwitchCase}
use Rattle.hir.specs.declared.terminal.ReactiveTerminal.{ReactiveTerminal}
use Rattle.hir.specs.Decode.{top_value, opt_block_of, cases_of, term_of, stmt_of, block_of}
use Rattle.hir.specs.Held.{value_slots, slots}
use Rattle.hir.specs.Tree.{OptBlock, Cases, Term, Stmt, Block}

abbrev pub block_in : ℕ → Arena → Range → Option Block
block_in d a = block_of d (slots a)

abbrev pub alternate_in : ℕ → Arena → Option Range → Option OptBlock
alternate_in d a = opt_block_of (block_in d a)

abbrev pub cases_in : ℕ → Arena → List ReactiveSwitchCase → Option Cases
cases_in d a = cases_of (block_in d a)

abbrev pub terminal_in : ℕ → Arena → ReactiveTerminal → Option Term
terminal_in d a = term_of (slots a) (top_value (value_slots a.inner)) (block_in d a)

abbrev pub statement_in : ℕ → Arena → ReactiveStatement → Option Stmt
statement_in d a = stmt_of (slots a) (top_value (value_slots a.inner)) (block_in d a)
