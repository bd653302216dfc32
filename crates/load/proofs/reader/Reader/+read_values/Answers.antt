use Rattle.std.proofs.Common.{refl, ap, arith}
use Rattle.format.specs.Parse.{place, logical_read, conditional_read, sequence_read, optional_read, value}
use Rattle.load.specs.Reads.{cursor}
use Rattle.load.proofs.Later.{order_later, option_later, operators_later, place_later}
use Rattle.load.proofs.ValueSteps.{room_later, room_word, room_after}
use Rattle.load.proofs.Stops.{handed_on, one_less}
use Rattle.load.proofs.ValueRing
use Rattle.load.proofs.reader.Reader.+read_values.Goals as goal

pub read_case-read_operation-requires : goal.read_case-read_operation-requires
read_case-read_operation-requires t c = room_word _ c.requires c.in_ok-case.ensures

pub read_case-read_logical-requires : goal.read_case-read_logical-requires
read_case-read_logical-requires t c = (omega arith, room_word _ c.requires c.in_ok-case.ensures)

pub read_case-read_conditional-requires : goal.read_case-read_conditional-requires
read_case-read_conditional-requires t c = (omega arith, room_word _ c.requires c.in_ok-case.ensures)

pub read_case-read_sequence-requires : goal.read_case-read_sequence-requires
read_case-read_sequence-requires t c = (omega arith, room_word _ c.requires c.in_ok-case.ensures)

pub read_case-read_optional-requires : goal.read_case-read_optional-requires
read_case-read_optional-requires t c = (omega arith, room_word _ c.requires c.in_ok-case.ensures)

pub read_case-returns-in_ok-operation-in-0 : goal.read_case-returns-in_ok-operation-in-0
read_case-returns-in_ok-operation-in-0 t c = ValueRing.case_operation c.args.depth c.in_ok-case.ensures c.in-0.is c.in_ok-operation-in-0.ensures

pub read_case-returns-in-1 : goal.read_case-returns-in-1
read_case-returns-in-1 t c =
    ValueRing.case_of c.args.depth c.args.arena.now c.read_logical.new.arena c.read_logical.result 1 (logical_read (value c.args.depth)) c.args.self.now c.word.new.self c.read_logical.new.self refl c.in_ok-case.ensures c.in-1.is c.read_logical.ensures

pub read_case-returns-in-2 : goal.read_case-returns-in-2
read_case-returns-in-2 t c =
    ValueRing.case_of c.args.depth c.args.arena.now c.read_conditional.new.arena c.read_conditional.result 2 (conditional_read (value c.args.depth)) c.args.self.now c.word.new.self c.read_conditional.new.self refl c.in_ok-case.ensures c.in-2.is c.read_conditional.ensures

pub read_case-returns-in-3 : goal.read_case-returns-in-3
read_case-returns-in-3 t c =
    ValueRing.case_of c.args.depth c.args.arena.now c.read_sequence.new.arena c.read_sequence.result 3 (sequence_read (value c.args.depth)) c.args.self.now c.word.new.self c.read_sequence.new.self refl c.in_ok-case.ensures c.in-3.is c.read_sequence.ensures

pub read_case-returns-in-4 : goal.read_case-returns-in-4
read_case-returns-in-4 t c =
    ValueRing.case_of c.args.depth c.args.arena.now c.read_optional.new.arena c.read_optional.result 4 (optional_read (value c.args.depth)) c.args.self.now c.word.new.self c.read_optional.new.self refl c.in_ok-case.ensures c.in-4.is c.read_optional.ensures

pub read_conditional-returns : goal.read_conditional-returns
read_conditional-returns t c = ValueRing.conditional_in c.args.depth c.in_ok-test.ensures c.in_ok-consequent.ensures c.in_ok-alternate.ensures

pub read_instruction-read_value-requires : goal.read_instruction-read_value-requires
read_instruction-read_value-requires t c = (
  omega arith,
  room_later (room_later c.requires (order_later (cursor c.args.self.now) _ c.in_ok-id.ensures))
      (option_later place place_later (cursor c.order.new.self) _ c.in_ok-lvalue.ensures),
)

pub read_instruction-returns : goal.read_instruction-returns
read_instruction-returns t c =
    ValueRing.instr_in_row c.args.depth c.in_ok-id.ensures c.in_ok-lvalue.ensures c.in_ok-value.ensures c.in_ok-span.ensures

pub read_instructions-loop-init : goal.read_instructions-loop-init
read_instructions-loop-init t c = ValueRing.instrs_none

pub read_instructions-returns-in_err-begin_statement : goal.read_instructions-returns-in_err-begin_statement
read_instructions-returns-in_err-begin_statement t c =
    rw (handed_on c.from_residual.result c.from_residual.ensures) (ValueRing.instrs_stop c.loop-test.true c.loop.invariant (ValueRing.one_short c.args.depth (cursor c.loop.self) c.in_err-begin_statement.ensures))

pub read_instructions-returns-in_err-instruction : goal.read_instructions-returns-in_err-instruction
read_instructions-returns-in_err-instruction t c =
    rw (handed_on c.from_residual-in_err-instruction.result c.from_residual-in_err-instruction.ensures) (ValueRing.instrs_stop c.loop-test.true c.loop.invariant (ValueRing.one_from c.args.depth (cursor c.loop.self) c.in_ok-begin_statement.ensures c.in_err-instruction.ensures))

pub read_instructions-loop-preserved : goal.read_instructions-loop-preserved
read_instructions-loop-preserved t c =
    ValueRing.instrs_after c.loop.invariant c.in_ok-begin_statement.ensures c.in_ok-instruction.ensures
    (record { items = c.wait.ensures.items; len = c.wait.ensures.len; values = refl; instructions = ap (λ t. t.vec) c.wait.ensures.table; places = refl })

pub read_logical-read_value-requires : goal.read_logical-read_value-requires
read_logical-read_value-requires t c = (omega arith, room_later c.requires (operators_later (cursor c.args.self.now) _ c.in_ok-operator.ensures))

pub read_logical-read_value-requires-2 : goal.read_logical-read_value-requires-2
read_logical-read_value-requires-2 t c = (omega arith, room_after (room_later c.requires (operators_later (cursor c.args.self.now) _ c.in_ok-operator.ensures)) c.in_ok-left.ensures.step)

pub read_logical-returns : goal.read_logical-returns
read_logical-returns t c = ValueRing.logical_in c.args.depth c.in_ok-operator.ensures c.in_ok-left.ensures c.in_ok-right.ensures

pub read_optional-returns : goal.read_optional-returns
read_optional-returns t c = ValueRing.optional_in c.args.depth c.in_ok-value.ensures c.in_ok-optional.ensures

pub read_sequence-read_instructions-requires : goal.read_sequence-read_instructions-requires
read_sequence-read_instructions-requires t c = (omega arith, room_word _ c.requires c.in_ok-count.ensures)

pub read_sequence-settle-instructions-requires : goal.read_sequence-settle-instructions-requires
read_sequence-settle-instructions-requires t c =
    let m = c.in_ok-read_instructions.ensures in (
      omega arith,
      (
        ValueRing.settle_within c.len-base.ensures m,
        ValueRing.settle_room c.len-base.result (room_word _ c.requires c.in_ok-count.ensures) m c.read_instructions.new.self.limited.statements,
      ),
    )

pub read_sequence-read_value-requires : goal.read_sequence-read_value-requires
read_sequence-read_value-requires t c = (
  omega arith,
  room_later
      (room_after c.requires (ValueRing.row_settled c.in_ok-count.ensures c.len-base.ensures c.in_ok-read_instructions.ensures c.settle-instructions.ensures refl refl).step)
      (order_later (cursor c.read_instructions.new.self) _ c.in_ok-id.ensures),
)

pub read_sequence-returns : goal.read_sequence-returns
read_sequence-returns t c =
    ValueRing.sequence_in c.args.depth (ValueRing.row_settled c.in_ok-count.ensures c.len-base.ensures c.in_ok-read_instructions.ensures c.settle-instructions.ensures refl refl) c.in_ok-id.ensures c.in_ok-value.ensures

pub read_value-returns-in_err-begin_value : goal.read_value-returns-in_err-begin_value
read_value-returns-in_err-begin_value t c =
    rw (handed_on c.from_residual-in_err-begin_value.result c.from_residual-in_err-begin_value.ensures) (ValueRing.value_short (cursor c.args.self.now) (one_less c.checked_sub.ensures c.in_ok-depth.ensures.ok_part) c.in_err-begin_value.ensures)

pub read_value-returns-in_err-value : goal.read_value-returns-in_err-value
read_value-returns-in_err-value t c =
    rw (handed_on c.from_residual-in_err-value.result c.from_residual-in_err-value.ensures) (ValueRing.value_from (cursor c.args.self.now) (one_less c.checked_sub.ensures c.in_ok-depth.ensures.ok_part) c.in_ok-begin_value.ensures _ c.in_err-value.ensures)

pub read_value-returns : goal.read_value-returns
read_value-returns t c = ValueRing.value_in (one_less c.checked_sub.ensures c.in_ok-depth.ensures.ok_part) c.in_ok-begin_value.ensures c.in_ok-value.ensures
    (record { slot = c.add-slot.ensures.slot; items = c.add-slot.ensures.items; len = c.add-slot.ensures.len; instructions = refl; places = refl; waiting = refl })
