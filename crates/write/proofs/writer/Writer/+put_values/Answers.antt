use Rattle.std.proofs.Common.{ap, arith}
use Rattle.hir.specs.Decode.{value_of}
use Rattle.hir.specs.Encode.{val_words}
use Rattle.hir.specs.Held.{value_slots}
use Rattle.write.specs.Puts.{words_in}
use Rattle.write.proofs.Lay.{wrote_more, wrote_as}
use Rattle.write.proofs.Opened.{value_node, sequence_is}
use Rattle.write.proofs.Rooms.{writable_as}
use Rattle.write.proofs.Rows.{row_first, row_next, row_end, instrs_law}
use Rattle.write.proofs.writer.Writer.+put_values.Goals as goal

pub instruction-returns : goal.instruction-returns
instruction-returns t c = wrote_as (grind arith) (wrote_more c.word.ensures (wrote_more c.put.ensures (wrote_more c.value_at.ensures c.word-2.ensures)))

pub instructions-instruction-requires : goal.instructions-instruction-requires
instructions-instruction-requires t c =
    let p = row_first (instrs_law _) _ c.loop-instruction-test.true c.loop-instruction.invariant in (omega arith, record { stands = p.0; room = p.1 })

pub instructions-loop-instruction-preserved : goal.instructions-loop-instruction-preserved
instructions-loop-instruction-preserved t c = row_next (instrs_law _) _ c.loop-instruction-test.true c.loop-instruction.invariant c.instruction.ensures

pub instructions-returns : goal.instructions-returns
instructions-returns t c = row_end (instrs_law _) c.loop-instruction-test.false c.loop-instruction.invariant

pub value-returns-in-Instruction : goal.value-returns-in-Instruction
value-returns-in-Instruction t c = wrote_as (grind arith) (wrote_more c.word.ensures c.operation.ensures)

pub value-returns-in-LogicalExpression : goal.value-returns-in-LogicalExpression
value-returns-in-LogicalExpression t c = wrote_as (grind arith) (wrote_more c.words.ensures (wrote_more c.value_at.ensures c.value_at-in-LogicalExpression.ensures))

pub value-returns-in-ConditionalExpression : goal.value-returns-in-ConditionalExpression
value-returns-in-ConditionalExpression t c =
    wrote_as (grind arith)
    (wrote_more c.word-in-ConditionalExpression.ensures
    (wrote_more c.value_at-in-ConditionalExpression.ensures
    (wrote_more c.value_at-in-ConditionalExpression-2.ensures c.value_at-in-ConditionalExpression-3.ensures)))

pub value-returns-in-SequenceExpression : goal.value-returns-in-SequenceExpression
value-returns-in-SequenceExpression t c = wrote_as (sequence_is (value_slots c.args.arena.now) (value_of c.args.depth (value_slots c.args.arena.now)) c.row.ensures c.in-SequenceExpression.is c.requires.stands) (wrote_more c.words-in-SequenceExpression.ensures (wrote_more c.instructions.ensures (wrote_more c.word-in-SequenceExpression.ensures c.value_at-in-SequenceExpression.ensures)))

pub value-returns-in-OptionalExpression : goal.value-returns-in-OptionalExpression
value-returns-in-OptionalExpression t c = wrote_as (grind arith) (wrote_more c.word-in-OptionalExpression.ensures (wrote_more c.value_at-in-OptionalExpression.ensures c.word-in-OptionalExpression-2.ensures))

pub value_at-value-requires : goal.value_at-value-requires
value_at-value-requires t c = (grind arith, writable_as (value_node c.args.depth (value_slots c.args.arena.now) c.args.slot _ c.requires.stands c.index.ensures) c.requires.stands c.requires.room)

pub value_at-returns : goal.value_at-returns
value_at-returns t c = wrote_as (ap (words_in val_words) (value_node c.args.depth (value_slots c.args.arena.now) c.args.slot _ c.requires.stands c.index.ensures)) c.value.ensures
