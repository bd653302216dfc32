use Rattle.std.proofs.Common.{refl, ap, arith, rules}
use Rattle.hir.specs.Tree.{break, continue, return, throw}
use Rattle.format.specs.Parse.{place, block, jump_read, leave_read, switch_read, do_while_read, while_read, for_read, for_of_read, for_in_read, if_read, label_block_read, try_read}
use Rattle.load.specs.Blocks.{term_in}
use Rattle.load.specs.Reads.{cursor}
use Rattle.load.proofs.BlockRing
use Rattle.load.proofs.BlockRows
use Rattle.load.proofs.BlockSteps.{room_later, room_word, room_place, room_after}
use Rattle.load.proofs.Stops.{handed_on, one_less}
use Rattle.load.proofs.Chosen.{by_flag}
use Rattle.load.proofs.Later.{flag_later, place_later, option_later, jump_later, leave_later}
use Rattle.load.proofs.reader.Reader.+read_blocks.Goals as goal

pub read_block-returns-in_err-count : goal.read_block-returns-in_err-count
read_block-returns-in_err-count t c =
    rw (handed_on c.from_residual-in_err-count.result c.from_residual-in_err-count.ensures) (BlockRows.block_short (cursor c.args.self.now) (one_less c.checked_sub.ensures c.in_ok-depth.ensures.ok_part) c.in_err-count.ensures)

pub read_block-read_statements-requires : goal.read_block-read_statements-requires
read_block-read_statements-requires t c = (omega (arith, one_less c.checked_sub.ensures c.in_ok-depth.ensures.ok_part), room_word _ c.requires c.in_ok-count.ensures)

pub read_block-returns-in_err-read_statements : goal.read_block-returns-in_err-read_statements
read_block-returns-in_err-read_statements t c =
    rw (handed_on c.from_residual-in_err-read_statements.result c.from_residual-in_err-read_statements.ensures) (BlockRows.block_from (cursor c.args.self.now) (one_less c.checked_sub.ensures c.in_ok-depth.ensures.ok_part) c.in_ok-count.ensures _ c.in_err-read_statements.ensures)

pub read_block-settle-requires : goal.read_block-settle-requires
read_block-settle-requires t c =
    let m = c.in_ok-read_statements.ensures in (
      omega arith,
      (
        BlockRows.settle_within c.len-base.ensures m,
        BlockRows.settle_room c.len-base.result (room_word _ c.requires c.in_ok-count.ensures) m c.read_statements.new.self.limited.statements,
      ),
    )

pub read_block-returns : goal.read_block-returns
read_block-returns t c = BlockRows.block_in (one_less c.checked_sub.ensures c.in_ok-depth.ensures.ok_part) c.in_ok-count.ensures c.len-base.ensures c.in_ok-read_statements.ensures
    (record { start = c.settle.ensures.start; count = c.settle.ensures.count; items = c.settle.ensures.items; len = c.settle.ensures.len; waiting = c.settle.ensures.waiting; base = c.settle.ensures.base; inner = refl; statements = refl; cases = refl; casing = refl })

pub read_switch_case-read_optional_block-requires : goal.read_switch_case-read_optional_block-requires
read_switch_case-read_optional_block-requires t c = (omega arith, room_later c.requires (option_later place place_later (cursor c.args.self.now) _ c.in_ok-test.ensures))

pub read_switch_case-returns : goal.read_switch_case-returns
read_switch_case-returns t c = BlockRing.case_in_row c.args.depth c.in_ok-test.ensures c.in_ok-block.ensures

pub read_cases-loop-init : goal.read_cases-loop-init
read_cases-loop-init t c = BlockRows.cases_none

pub read_cases-returns-in_err-begin_case : goal.read_cases-returns-in_err-begin_case
read_cases-returns-in_err-begin_case t c =
    rw (handed_on c.from_residual.result c.from_residual.ensures) (BlockRows.cases_stop c.loop-test.true c.loop.invariant (BlockRows.case_short c.args.depth (cursor c.loop.self) c.in_err-begin_case.ensures))

pub read_cases-returns-in_err-case : goal.read_cases-returns-in_err-case
read_cases-returns-in_err-case t c =
    rw (handed_on c.from_residual-in_err-case.result c.from_residual-in_err-case.ensures) (BlockRows.cases_stop c.loop-test.true c.loop.invariant (BlockRows.case_further c.args.depth (cursor c.loop.self) c.in_ok-begin_case.ensures c.in_err-case.ensures))

pub read_cases-loop-preserved : goal.read_cases-loop-preserved
read_cases-loop-preserved t c = BlockRows.cases_after c.loop.invariant c.in_ok-begin_case.ensures c.in_ok-case.ensures
    (record { items = c.wait.ensures.items; len = c.wait.ensures.len; inner = refl; statements = refl; entries = refl; cases = ap (λ t. t.vec) c.wait.ensures.table; waiting = refl })

pub read_do_while-returns : goal.read_do_while-returns
read_do_while-returns t c = BlockRing.do_while_in c.args.depth c.in_ok-loop_block.ensures c.in_ok-test.ensures c.in_ok-id.ensures

pub read_for-returns : goal.read_for-returns
read_for-returns t c = BlockRing.for_in_lem c.args.depth c.in_ok-init.ensures c.in_ok-test.ensures c.in_ok-update.ensures c.in_ok-loop_block.ensures c.in_ok-id.ensures

pub read_for_in-returns : goal.read_for_in-returns
read_for_in-returns t c = BlockRing.for_in_in c.args.depth c.in_ok-init.ensures c.in_ok-loop_block.ensures c.in_ok-id.ensures c.in_ok-span.ensures

pub read_for_of-returns : goal.read_for_of-returns
read_for_of-returns t c = BlockRing.for_of_in c.args.depth c.in_ok-init.ensures c.in_ok-test.ensures c.in_ok-loop_block.ensures c.in_ok-id.ensures c.in_ok-span.ensures

pub read_if-read_block-requires : goal.read_if-read_block-requires
read_if-read_block-requires t c = (omega arith, room_place _ c.requires c.in_ok-test.ensures)

pub read_if-read_optional_block-requires : goal.read_if-read_optional_block-requires
read_if-read_optional_block-requires t c = (omega arith, room_after (room_place _ c.requires c.in_ok-test.ensures) c.in_ok-consequent.ensures.frame)

pub read_if-returns : goal.read_if-returns
read_if-returns t c = BlockRing.if_in c.args.depth c.in_ok-test.ensures c.in_ok-consequent.ensures c.in_ok-alternate.ensures c.in_ok-id.ensures

pub read_label-returns : goal.read_label-returns
read_label-returns t c = BlockRing.label_in c.args.depth c.in_ok-block.ensures c.in_ok-id.ensures

pub read_statement-read_top_instruction-requires : goal.read_statement-read_top_instruction-requires
read_statement-read_top_instruction-requires t c = room_word _ c.requires c.in_ok-case.ensures

pub read_statement-read_terminal-requires : goal.read_statement-read_terminal-requires
read_statement-read_terminal-requires t c = (omega arith, room_word _ c.requires c.in_ok-case.ensures)

pub read_statement-read_block-requires : goal.read_statement-read_block-requires
read_statement-read_block-requires t c = (omega arith, room_word _ (room_word _ c.requires c.in_ok-case.ensures) c.in_ok-scope-in-2.ensures)

pub read_statement-read_block-requires-in-3 : goal.read_statement-read_block-requires-in-3
read_statement-read_block-requires-in-3 t c = (omega arith, room_word _ (room_word _ c.requires c.in_ok-case.ensures) c.in_ok-scope-in-3.ensures)

pub read_statement-returns-in_ok-instruction-in-0 : goal.read_statement-returns-in_ok-instruction-in-0
read_statement-returns-in_ok-instruction-in-0 t c = BlockRing.stmt_instruction c.args.depth c.in_ok-case.ensures c.in-0.is c.in_ok-instruction-in-0.ensures

pub read_statement-returns-in_ok-terminal-in-1 : goal.read_statement-returns-in_ok-terminal-in-1
read_statement-returns-in_ok-terminal-in-1 t c = BlockRing.stmt_terminal c.args.depth c.in_ok-case.ensures c.in-1.is c.in_ok-terminal-in-1.ensures

pub read_statement-returns-in_ok-instructions-in-2 : goal.read_statement-returns-in_ok-instructions-in-2
read_statement-returns-in_ok-instructions-in-2 t c = BlockRing.stmt_scope c.args.depth c.in_ok-case.ensures c.in-2.is c.in_ok-scope-in-2.ensures c.in_ok-instructions-in-2.ensures

pub read_statement-returns-in_ok-instructions-in-3 : goal.read_statement-returns-in_ok-instructions-in-3
read_statement-returns-in_ok-instructions-in-3 t c = BlockRing.stmt_pruned c.args.depth c.in_ok-case.ensures c.in-3.is c.in_ok-scope-in-3.ensures c.in_ok-instructions-in-3.ensures

pub read_statements-loop-init : goal.read_statements-loop-init
read_statements-loop-init t c = BlockRows.stmts_none

pub read_statements-returns-in_err-begin_statement : goal.read_statements-returns-in_err-begin_statement
read_statements-returns-in_err-begin_statement t c =
    rw (handed_on c.from_residual.result c.from_residual.ensures) (BlockRows.stmts_stop c.loop-test.true c.loop.invariant (BlockRows.stmt_short c.args.depth (cursor c.loop.self) c.in_err-begin_statement.ensures))

pub read_statements-returns-in_err-statement : goal.read_statements-returns-in_err-statement
read_statements-returns-in_err-statement t c =
    rw (handed_on c.from_residual-in_err-statement.result c.from_residual-in_err-statement.ensures) (BlockRows.stmts_stop c.loop-test.true c.loop.invariant (BlockRows.stmt_from c.args.depth (cursor c.loop.self) c.in_ok-begin_statement.ensures c.in_err-statement.ensures))

pub read_statements-loop-preserved : goal.read_statements-loop-preserved
read_statements-loop-preserved t c = BlockRows.stmts_after (record c.read_statement.new.arena { statements = c.add-slot.new.self }) c.loop.invariant c.in_ok-begin_statement.ensures c.in_ok-statement.ensures
    (record { slot = c.add-slot.ensures.slot; items = c.add-slot.ensures.items; len = c.add-slot.ensures.len; inner = refl; entries = refl; cases = refl; waiting = refl; casing = refl })
    (record { items = c.wait.ensures.items; len = c.wait.ensures.len; inner = refl; statements = refl; entries = ap (λ t. t.vec) c.wait.ensures.table; cases = refl; casing = refl })

pub read_switch-read_cases-requires : goal.read_switch-read_cases-requires
read_switch-read_cases-requires t c = (omega arith, room_word _ (room_place _ c.requires c.in_ok-test.ensures) c.in_ok-count.ensures)

pub read_switch-settle-cases-requires : goal.read_switch-settle-cases-requires
read_switch-settle-cases-requires t c =
    let m = c.in_ok-read_cases.ensures in (
      omega arith,
      (
        BlockRows.settle_cases_within c.len-base.ensures m,
        BlockRows.settle_cases_room c.len-base.result (room_word _ (room_place _ c.requires c.in_ok-test.ensures) c.in_ok-count.ensures) m c.read_cases.new.self.limited.cases,
      ),
    )

pub read_switch-returns : goal.read_switch-returns
read_switch-returns t c = BlockRing.switch_in c.args.depth c.in_ok-test.ensures (BlockRows.cases_settled c.in_ok-count.ensures c.len-base.ensures c.in_ok-read_cases.ensures
    (record { start = c.settle-cases.ensures.start; count = c.settle-cases.ensures.count; items = c.settle-cases.ensures.items; len = c.settle-cases.ensures.len; casing = c.settle-cases.ensures.waiting; base = c.settle-cases.ensures.base; inner = refl; statements = refl; entries = refl; waiting = refl })) c.in_ok-id.ensures

pub read_term-read_switch-requires : goal.read_term-read_switch-requires
read_term-read_switch-requires t c = (omega arith, room_word _ c.requires c.in_ok-case.ensures)

pub read_term-read_do_while-requires : goal.read_term-read_do_while-requires
read_term-read_do_while-requires t c = (omega arith, room_word _ c.requires c.in_ok-case.ensures)

pub read_term-read_while-requires : goal.read_term-read_while-requires
read_term-read_while-requires t c = (omega arith, room_word _ c.requires c.in_ok-case.ensures)

pub read_term-read_for-requires : goal.read_term-read_for-requires
read_term-read_for-requires t c = (omega arith, room_word _ c.requires c.in_ok-case.ensures)

pub read_term-read_for_of-requires : goal.read_term-read_for_of-requires
read_term-read_for_of-requires t c = (omega arith, room_word _ c.requires c.in_ok-case.ensures)

pub read_term-read_for_in-requires : goal.read_term-read_for_in-requires
read_term-read_for_in-requires t c = (omega arith, room_word _ c.requires c.in_ok-case.ensures)

pub read_term-read_if-requires : goal.read_term-read_if-requires
read_term-read_if-requires t c = (omega arith, room_word _ c.requires c.in_ok-case.ensures)

pub read_term-read_label-requires : goal.read_term-read_label-requires
read_term-read_label-requires t c = (omega arith, room_word _ c.requires c.in_ok-case.ensures)

pub read_term-read_try-requires : goal.read_term-read_try-requires
read_term-read_try-requires t c = (omega arith, room_word _ c.requires c.in_ok-case.ensures)

pub read_term-returns-in-4 : goal.read_term-returns-in-4
read_term-returns-in-4 t c =
    BlockRing.case_of (BlockRing.terms c.args.depth) (term_in c.args.depth) c.args.arena.now c.read_switch.new.arena c.read_switch.result 4 (switch_read (block c.args.depth)) c.args.self.now c.word.new.self c.read_switch.new.self refl c.in_ok-case.ensures c.in-4.is c.read_switch.ensures

pub read_term-returns-in-5 : goal.read_term-returns-in-5
read_term-returns-in-5 t c =
    BlockRing.case_of (BlockRing.terms c.args.depth) (term_in c.args.depth) c.args.arena.now c.read_do_while.new.arena c.read_do_while.result 5 (do_while_read (block c.args.depth)) c.args.self.now c.word.new.self c.read_do_while.new.self refl c.in_ok-case.ensures c.in-5.is c.read_do_while.ensures

pub read_term-returns-in-6 : goal.read_term-returns-in-6
read_term-returns-in-6 t c =
    BlockRing.case_of (BlockRing.terms c.args.depth) (term_in c.args.depth) c.args.arena.now c.read_while.new.arena c.read_while.result 6 (while_read (block c.args.depth)) c.args.self.now c.word.new.self c.read_while.new.self refl c.in_ok-case.ensures c.in-6.is c.read_while.ensures

pub read_term-returns-in-7 : goal.read_term-returns-in-7
read_term-returns-in-7 t c =
    BlockRing.case_of (BlockRing.terms c.args.depth) (term_in c.args.depth) c.args.arena.now c.read_for.new.arena c.read_for.result 7 (for_read (block c.args.depth)) c.args.self.now c.word.new.self c.read_for.new.self refl c.in_ok-case.ensures c.in-7.is c.read_for.ensures

pub read_term-returns-in-8 : goal.read_term-returns-in-8
read_term-returns-in-8 t c =
    BlockRing.case_of (BlockRing.terms c.args.depth) (term_in c.args.depth) c.args.arena.now c.read_for_of.new.arena c.read_for_of.result 8 (for_of_read (block c.args.depth)) c.args.self.now c.word.new.self c.read_for_of.new.self refl c.in_ok-case.ensures c.in-8.is c.read_for_of.ensures

pub read_term-returns-in-9 : goal.read_term-returns-in-9
read_term-returns-in-9 t c =
    BlockRing.case_of (BlockRing.terms c.args.depth) (term_in c.args.depth) c.args.arena.now c.read_for_in.new.arena c.read_for_in.result 9 (for_in_read (block c.args.depth)) c.args.self.now c.word.new.self c.read_for_in.new.self refl c.in_ok-case.ensures c.in-9.is c.read_for_in.ensures

pub read_term-returns-in-10 : goal.read_term-returns-in-10
read_term-returns-in-10 t c =
    BlockRing.case_of (BlockRing.terms c.args.depth) (term_in c.args.depth) c.args.arena.now c.read_if.new.arena c.read_if.result 10 (if_read (block c.args.depth)) c.args.self.now c.word.new.self c.read_if.new.self refl c.in_ok-case.ensures c.in-10.is c.read_if.ensures

pub read_term-returns-in-11 : goal.read_term-returns-in-11
read_term-returns-in-11 t c =
    BlockRing.case_of (BlockRing.terms c.args.depth) (term_in c.args.depth) c.args.arena.now c.read_label.new.arena c.read_label.result 11 (label_block_read (block c.args.depth)) c.args.self.now c.word.new.self c.read_label.new.self refl c.in_ok-case.ensures c.in-11.is c.read_label.ensures

pub read_term-returns-in-12 : goal.read_term-returns-in-12
read_term-returns-in-12 t c =
    BlockRing.case_of (BlockRing.terms c.args.depth) (term_in c.args.depth) c.args.arena.now c.read_try.new.arena c.read_try.result 12 (try_read (block c.args.depth)) c.args.self.now c.word.new.self c.read_try.new.self refl c.in_ok-case.ensures c.in-12.is c.read_try.ensures

pub read_terminal-returns : goal.read_terminal-returns
read_terminal-returns t c = BlockRing.terminal_in_frame c.args.depth c.in_ok-terminal.ensures c.in_ok-label.ensures

pub read_try-read_block-requires-2 : goal.read_try-read_block-requires-2
read_try-read_block-requires-2 t c = (omega arith, room_later (room_after c.requires c.in_ok-block.ensures.frame) (option_later place place_later (cursor c.read_block.new.self) _ c.in_ok-handler_binding.ensures))

pub read_try-returns : goal.read_try-returns
read_try-returns t c = BlockRing.try_in c.args.depth c.in_ok-block.ensures c.in_ok-handler_binding.ensures c.in_ok-handler.ensures c.in_ok-id.ensures

pub read_while-returns : goal.read_while-returns
read_while-returns t c = BlockRing.while_in c.args.depth c.in_ok-test.ensures c.in_ok-loop_block.ensures c.in_ok-id.ensures

pub read_optional_block-returns-in_err-flag : goal.read_optional_block-returns-in_err-flag
read_optional_block-returns-in_err-flag t c = rw by_flag (search rules)

pub read_optional_block-returns-in_err-read_block : goal.read_optional_block-returns-in_err-read_block
read_optional_block-returns-in_err-read_block t c = rw by_flag (search rules)

pub read_optional_block-read_block-requires : goal.read_optional_block-read_block-requires
read_optional_block-read_block-requires t c = (omega arith, room_later c.requires (flag_later (cursor c.args.self.now) _ c.in_ok-flag.ensures))

pub read_optional_block-returns-else-branch : goal.read_optional_block-returns-else-branch
read_optional_block-returns-else-branch t c = BlockRing.no_block_lem c.args.depth c.in_ok-flag.ensures c.if-branch.false

pub read_optional_block-returns-in_ok-read_block : goal.read_optional_block-returns-in_ok-read_block
read_optional_block-returns-in_ok-read_block t c = BlockRing.some_block_lem c.args.depth c.in_ok-flag.ensures c.if-branch.true c.in_ok-read_block.ensures

pub read_term-returns-in_ok-target-in-0 : goal.read_term-returns-in_ok-target-in-0
read_term-returns-in_ok-target-in-0 t c = BlockRing.jump_in c.args.depth 0 (jump_read break) (jump_later break) refl c.in_ok-case.ensures c.in-0.is (c.in_ok-target-in-0.ensures break) refl

pub read_term-returns-in_ok-target-in-1 : goal.read_term-returns-in_ok-target-in-1
read_term-returns-in_ok-target-in-1 t c = BlockRing.jump_in c.args.depth 1 (jump_read continue) (jump_later continue) refl c.in_ok-case.ensures c.in-1.is (c.in_ok-target-in-1.ensures continue) refl

pub read_term-returns-in_ok-value-in-2 : goal.read_term-returns-in_ok-value-in-2
read_term-returns-in_ok-value-in-2 t c = BlockRing.jump_in c.args.depth 2 (leave_read return) (leave_later return) refl c.in_ok-case.ensures c.in-2.is (c.in_ok-value-in-2.ensures return) refl

pub read_term-returns-in_ok-value-in-3 : goal.read_term-returns-in_ok-value-in-3
read_term-returns-in_ok-value-in-3 t c = BlockRing.jump_in c.args.depth 3 (leave_read throw) (leave_later throw) refl c.in_ok-case.ensures c.in-3.is (c.in_ok-value-in-3.ensures throw) refl
