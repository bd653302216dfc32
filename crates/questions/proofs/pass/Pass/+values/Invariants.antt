use Rattle.std.proofs.Common.{◌+◌, ◌*◌}
use Rattle.questions.specs.Pass.{values_in}
use Rattle.questions.specs.Questions.{instrs_lines}
use Rattle.questions.specs.Rows.{instrs_in}
use Rattle.questions.proofs.InstrRow.{some_instrs}
use Rattle.questions.proofs.Row.{RowLeft}
use Rattle.questions.proofs.pass.Pass.+values.Given as goal

abbrev pub decreases-value : goal.decreases-value
decreases-value l = l.depth * 4

abbrev pub decreases-instruction : goal.decreases-instruction
decreases-instruction l = l.depth * 4 + 1

abbrev pub decreases-sequence : goal.decreases-sequence
decreases-sequence l = l.depth * 4 + 2

abbrev pub invariant-sequence-loop-instruction : goal.invariant-sequence-loop-instruction
invariant-sequence-loop-instruction l = RowLeft (some_instrs l.depth) instrs_lines (instrs_in l.depth (values_in l.initial.self) l.fn.instructions) l.instruction-items l.initial.self l.self l.instruction-index
