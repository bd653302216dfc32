use Rattle.std.proofs.Common.{◌+◌, ◌*◌}
use Rattle.hir.specs.Decode.{instrs_of, value_of}
use Rattle.hir.specs.Encode.{instrs_words}
use Rattle.hir.specs.Held.{value_slots}
use Rattle.write.proofs.Rows.{RowLeft}
use Rattle.write.proofs.writer.Writer.+put_values.Given as goal

-- within a depth the calls go from a value to its instructions, one of them, and a slot, whose value is one less deep
abbrev pub decreases-value_at : goal.decreases-value_at
decreases-value_at l = l.depth * 4

abbrev pub decreases-instruction : goal.decreases-instruction
decreases-instruction l = l.depth * 4 + 1

abbrev pub decreases-instructions : goal.decreases-instructions
decreases-instructions l = l.depth * 4 + 2

abbrev pub decreases-value : goal.decreases-value
decreases-value l = l.depth * 4 + 3

abbrev pub invariant-instructions-loop-instruction : goal.invariant-instructions-loop-instruction
invariant-instructions-loop-instruction l = RowLeft (instrs_of (value_of l.depth (value_slots l.arena))) instrs_words l.instructions l.initial.self l.self l.instruction-index
