use Rattle.std.proofs.Common.{ℕ, ◌-◌, ap, ◌∙◌, append_assoc}
use Rattle.hir.specs.Decode.{Slots, value_of}
use Rattle.questions.specs.Pass.{values_in}
use Rattle.questions.specs.Questions.{val_lines, instr_lines, instrs_lines}
use Rattle.questions.specs.Rows.{instrs_in}
use Rattle.questions.proofs.InstrRow.{one_instr, some_instrs, instr_rows}
use Rattle.questions.proofs.Passing.{begun, then_passed, as_lines, passed_by}
use Rattle.questions.proofs.Row as R
use Rattle.questions.proofs.ValueParts as V
use Rattle.questions.proofs.pass.Pass.+values.Goals as goal

pub sequence-loop-instruction-preserved : goal.sequence-loop-instruction-preserved
sequence-loop-instruction-preserved t c = R.row_again (one_instr c.args.depth) (some_instrs c.args.depth) instr_lines instrs_lines (instr_rows c.args.depth) _ c.loop-instruction.invariant c.loop-instruction-test.true c.instruction.ensures

pub value-returns-in-LogicalExpression : goal.value-returns-in-LogicalExpression
value-returns-in-LogicalExpression t c =
    passed_by c.requires (λ v e.
    let p = V.logical_parts c.args.depth (values_in c.args.self.now) c.args.slot v _ e c.at.ensures c.in-LogicalExpression.is in
    let lines = val_lines c.args.self.now.bounds in
    let inner = λ (k : ℕ) (a : Slots). value_of (c.args.depth - 1) a.inner k in
    let first = then_passed (inner c.in-LogicalExpression.left) val_lines begun c.value.ensures p.1 p.3 in
    as_lines (then_passed (inner c.in-LogicalExpression.right) val_lines first c.value-in-LogicalExpression.ensures p.2 p.4) (ap lines p.5))

pub value-returns-in-ConditionalExpression : goal.value-returns-in-ConditionalExpression
value-returns-in-ConditionalExpression t c =
    passed_by c.requires (λ v e.
    let p = V.conditional_parts c.args.depth (values_in c.args.self.now) c.args.slot v _ e c.at.ensures c.in-ConditionalExpression.is in
    let lines = val_lines c.args.self.now.bounds in
    let inner = λ (k : ℕ) (a : Slots). value_of (c.args.depth - 1) a.inner k in
    let tested = then_passed (inner c.in-ConditionalExpression.test) val_lines begun c.value-in-ConditionalExpression.ensures p.1 p.4 in
    let chosen = then_passed (inner c.in-ConditionalExpression.consequent) val_lines tested c.value-in-ConditionalExpression-2.ensures p.2 p.5 in
    as_lines (then_passed (inner c.in-ConditionalExpression.alternate) val_lines chosen c.value-in-ConditionalExpression-3.ensures p.3 p.6)
    (append_assoc (lines p.1) (lines p.2) (lines p.3) ∙ ap lines p.7))

pub value-returns-in-SequenceExpression : goal.value-returns-in-SequenceExpression
value-returns-in-SequenceExpression t c =
    passed_by c.requires (λ v e.
    let p = V.sequence_parts c.args.depth (values_in c.args.self.now) c.args.slot v _ e c.at.ensures c.in-SequenceExpression.is in
    let row = λ (a : Slots). instrs_in (c.args.depth - 1) a.inner c.in-SequenceExpression.instructions in
    let last = λ (a : Slots). value_of (c.args.depth - 1) a.inner c.in-SequenceExpression.last in
    as_lines (then_passed last val_lines (then_passed row instrs_lines begun c.sequence.ensures p.1 p.3) c.value-in-SequenceExpression.ensures p.2 p.4) (ap (val_lines c.args.self.now.bounds) p.5))
