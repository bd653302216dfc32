use Rattle.std.proofs.Common.{◌+◌, ◌-◌, ◌*◌}
use Rattle.hir.specs.Decode.{body_of, slot_of, block_of}
use Rattle.hir.specs.Encode.{cases_words, body_words}
use Rattle.hir.specs.Held.{slots}
use Rattle.write.specs.Stands.{cases_in}
use Rattle.write.proofs.Rows.{RowLeft}
use Rattle.write.proofs.writer.Writer.+put_blocks.Given as goal

-- within a depth the calls go from a statement to its terminal, cases, an optional block and a block, whose statements are one less deep
abbrev pub decreases-block : goal.decreases-block
decreases-block l = l.depth * 8

abbrev pub decreases-optional_block : goal.decreases-optional_block
decreases-optional_block l = l.depth * 8 + 1

abbrev pub decreases-cases : goal.decreases-cases
decreases-cases l = l.depth * 8 + 2

abbrev pub decreases-terminal : goal.decreases-terminal
decreases-terminal l = l.depth * 8 + 3

abbrev pub decreases-statement : goal.decreases-statement
decreases-statement l = l.depth * 8 + 4

abbrev pub invariant-cases-loop-case : goal.invariant-cases-loop-case
invariant-cases-loop-case l = RowLeft (cases_in l.depth l.arena) cases_words l.cases l.initial.self l.self l.case-index

abbrev pub invariant-block-loop-slot : goal.invariant-block-loop-slot
invariant-block-loop-slot l = RowLeft (body_of (slot_of (slots l.arena) (block_of (l.depth - 1) (slots l.arena)))) body_words l.slot-items l.initial.self l.self l.slot-index
