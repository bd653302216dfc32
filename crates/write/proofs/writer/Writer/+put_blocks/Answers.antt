use Rattle.std.proofs.Common.{◌-◌, ap, arith}
use Rattle.hir.specs.Decode.{top_value, block_of}
use Rattle.hir.specs.Encode.{stmt_words}
use Rattle.hir.specs.Held.{value_slots, slots}
use Rattle.write.specs.Puts.{words_in}
use Rattle.write.proofs.Lay.{wrote_more, wrote_as}
use Rattle.write.proofs.Opened.{switch_is, slot_within, slot_node, block_row, block_deep}
use Rattle.write.proofs.Rooms.{room_first, writable_as}
use Rattle.write.proofs.Rows.{row_first, row_next, row_end, cases_law, body_law}
use Rattle.write.proofs.writer.Writer.+put_blocks.Goals as goal

pub block-at-requires : goal.block-at-requires
block-at-requires t c =
    let p = row_first (body_law _) 0 c.loop-slot-test.true c.loop-slot.invariant in
    omega (arith, slot_within (slots c.args.arena.now) (block_of (c.args.depth - 1) (slots c.args.arena.now)) _ p.0, c.args.arena.now.statements.vec.ok.0)

pub block-statement-requires : goal.block-statement-requires
block-statement-requires t c =
    let p = row_first (body_law _) 0 c.loop-slot-test.true c.loop-slot.invariant in
    (omega (arith, block_deep c.args.depth (slots c.args.arena.now) c.args.block c.requires.stands), writable_as (slot_node (slots c.args.arena.now) (block_of (c.args.depth - 1) (slots c.args.arena.now)) _ c.at.ensures) p.0 p.1)

pub block-loop-slot-preserved : goal.block-loop-slot-preserved
block-loop-slot-preserved t c =
    let p = row_first (body_law _) 0 c.loop-slot-test.true c.loop-slot.invariant in
    let e = slot_node (slots c.args.arena.now) (block_of (c.args.depth - 1) (slots c.args.arena.now)) _ c.at.ensures in
    row_next (body_law _) 0 c.loop-slot-test.true c.loop-slot.invariant (wrote_as (ap (words_in stmt_words) e) c.statement.ensures)

pub block-returns : goal.block-returns
block-returns t c =
    wrote_as (block_row c.args.depth (slots c.args.arena.now) c.args.block c.row-slot-items.ensures c.requires.stands).is (wrote_more c.word.ensures (row_end (body_law _) c.loop-slot-test.false c.loop-slot.invariant))

pub cases-put-requires : goal.cases-put-requires
cases-put-requires t c = let p = row_first (cases_law _) _ c.loop-case-test.true c.loop-case.invariant in room_first _ _ p.1

pub cases-loop-case-preserved : goal.cases-loop-case-preserved
cases-loop-case-preserved t c = row_next (cases_law _) _ c.loop-case-test.true c.loop-case.invariant (wrote_more c.put.ensures c.optional_block.ensures)

pub cases-returns : goal.cases-returns
cases-returns t c = row_end (cases_law _) c.loop-case-test.false c.loop-case.invariant

pub optional_block-returns-in-Some : goal.optional_block-returns-in-Some
optional_block-returns-in-Some t c = wrote_as (grind arith) (wrote_more c.word-in-Some.ensures c.block.ensures)

pub statement-returns-in-Instruction : goal.statement-returns-in-Instruction
statement-returns-in-Instruction t c = wrote_as (grind arith) (wrote_more c.word.ensures c.top_instruction.ensures)

pub statement-returns-in-Terminal : goal.statement-returns-in-Terminal
statement-returns-in-Terminal t c = wrote_as (grind arith) (wrote_more c.word-in-Terminal.ensures (wrote_more c.terminal.ensures c.put.ensures))

pub statement-returns-in-Scope : goal.statement-returns-in-Scope
statement-returns-in-Scope t c = wrote_as (grind arith) (wrote_more c.words.ensures c.block.ensures)

pub statement-returns-in-PrunedScope : goal.statement-returns-in-PrunedScope
statement-returns-in-PrunedScope t c = wrote_as (grind arith) (wrote_more c.words-in-PrunedScope.ensures c.block-in-PrunedScope.ensures)

pub terminal-returns-in-Switch : goal.terminal-returns-in-Switch
terminal-returns-in-Switch t c =
    wrote_as (switch_is (slots c.args.arena.now) (top_value (value_slots c.args.arena.now.inner)) (block_of c.args.depth (slots c.args.arena.now)) c.row.ensures c.in-Switch.is c.requires.stands) (wrote_more c.word.ensures (wrote_more c.put.ensures (wrote_more c.word-in-Switch.ensures (wrote_more c.cases.ensures c.word-in-Switch-2.ensures))))

pub terminal-returns-in-DoWhile : goal.terminal-returns-in-DoWhile
terminal-returns-in-DoWhile t c = wrote_as (grind arith) (wrote_more c.word-in-DoWhile.ensures (wrote_more c.block.ensures (wrote_more c.top_value.ensures c.word-in-DoWhile-2.ensures)))

pub terminal-returns-in-While : goal.terminal-returns-in-While
terminal-returns-in-While t c = wrote_as (grind arith) (wrote_more c.word-in-While.ensures (wrote_more c.top_value-in-While.ensures (wrote_more c.block-in-While.ensures c.word-in-While-2.ensures)))

pub terminal-returns-in-For : goal.terminal-returns-in-For
terminal-returns-in-For t c = wrote_as (grind arith) (wrote_more c.word-in-For.ensures (wrote_more c.top_value-in-For.ensures (wrote_more c.top_value-in-For-2.ensures (wrote_more c.optional_value.ensures (wrote_more c.block-in-For.ensures c.word-in-For-2.ensures)))))

pub terminal-returns-in-ForOf : goal.terminal-returns-in-ForOf
terminal-returns-in-ForOf t c = wrote_as (grind arith) (wrote_more c.word-in-ForOf.ensures (wrote_more c.top_value-in-ForOf.ensures (wrote_more c.top_value-in-ForOf-2.ensures (wrote_more c.block-in-ForOf.ensures c.words.ensures))))

pub terminal-returns-in-ForIn : goal.terminal-returns-in-ForIn
terminal-returns-in-ForIn t c = wrote_as (grind arith) (wrote_more c.word-in-ForIn.ensures (wrote_more c.top_value-in-ForIn.ensures (wrote_more c.block-in-ForIn.ensures c.words-in-ForIn.ensures)))

pub terminal-returns-in-If : goal.terminal-returns-in-If
terminal-returns-in-If t c = wrote_as (grind arith) (wrote_more c.word-in-If.ensures (wrote_more c.put-in-If.ensures (wrote_more c.block-in-If.ensures (wrote_more c.optional_block.ensures c.word-in-If-2.ensures))))

pub terminal-returns-in-Label : goal.terminal-returns-in-Label
terminal-returns-in-Label t c = wrote_as (grind arith) (wrote_more c.word-in-Label.ensures (wrote_more c.block-in-Label.ensures c.word-in-Label-2.ensures))

pub terminal-returns-in-Try : goal.terminal-returns-in-Try
terminal-returns-in-Try t c = wrote_as (grind arith) (wrote_more c.word-in-Try.ensures (wrote_more c.block-in-Try.ensures (wrote_more c.put-in-Try.ensures (wrote_more c.block-in-Try-2.ensures c.word-in-Try-2.ensures))))
