use Rattle.std.proofs.Common.{◌+◌, ◌-◌, ◌*◌}
use Rattle.questions.specs.Around.{around_of}
use Rattle.questions.specs.Pass.{slots_in}
use Rattle.questions.specs.Rows.{body_in, cases_at}
use Rattle.questions.proofs.BlockRow.{some_stmts, block_lines_in, some_cases, cases_lines_in}
use Rattle.questions.proofs.Row.{RowLeft}
use Rattle.questions.proofs.pass.Pass.+blocks.Given as goal

-- within a depth the calls go from statement to terminal, cases, an optional block and the block
abbrev pub decreases-block : goal.decreases-block
decreases-block l = l.depth * 8

abbrev pub decreases-optional : goal.decreases-optional
decreases-optional l = l.depth * 8 + 1

abbrev pub decreases-cases : goal.decreases-cases
decreases-cases l = l.depth * 8 + 2

abbrev pub decreases-terminal : goal.decreases-terminal
decreases-terminal l = l.depth * 8 + 3

abbrev pub decreases-statement : goal.decreases-statement
decreases-statement l = l.depth * 8 + 4

abbrev pub invariant-block-loop-slot : goal.invariant-block-loop-slot
invariant-block-loop-slot l = RowLeft (some_stmts (l.depth - 1)) (block_lines_in (around_of l.around)) (body_in (l.depth - 1) (slots_in l.initial.self) l.fn.block) l.slot-items l.initial.self l.self l.slot-index

abbrev pub invariant-cases-loop-case : goal.invariant-cases-loop-case
invariant-cases-loop-case l = RowLeft (some_cases l.depth) (cases_lines_in (around_of l.around)) (cases_at l.depth l.initial.self l.fn.cases) l.case-items l.initial.self l.self l.case-index
