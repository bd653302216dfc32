use Rattle.std.proofs.Common.{⊎_elim}
use Rattle.questions.specs.Pass.{values_in}
use Rattle.questions.proofs.ValueParts as V
use Rattle.questions.proofs.pass.Pass.+value_own.Goals as goal

pub returns-in-Instruction : goal.returns-in-Instruction
returns-in-Instruction t c = V.operation_own c.args.self.now.bounds c.args.depth (values_in c.args.self.now) c.args.slot _ c.at.ensures c.in-Instruction.is c.operation.ensures

pub returns-in-LogicalExpression : goal.returns-in-LogicalExpression
returns-in-LogicalExpression t c = V.logical_own c.args.self.now.bounds c.args.depth (values_in c.args.self.now) c.args.slot _ c.at.ensures c.in-LogicalExpression.is c.value_own-own.ensures c.value_own.ensures c.and.ensures

pub returns-in-ConditionalExpression : goal.returns-in-ConditionalExpression
returns-in-ConditionalExpression t c =
    V.conditional_own c.args.self.now.bounds c.args.depth (values_in c.args.self.now) c.args.slot _ c.at.ensures c.in-ConditionalExpression.is
    c.value_own-own-in-ConditionalExpression.ensures c.value_own-chosen.ensures c.value_own-in-ConditionalExpression.ensures c.and-in-ConditionalExpression.ensures c.and-in-ConditionalExpression-2.ensures

pub returns-in-SequenceExpression : goal.returns-in-SequenceExpression
returns-in-SequenceExpression t c =
    ⊎_elim (λ e. V.sequence_own c.args.self.now.bounds c.args.depth (values_in c.args.self.now) c.args.slot _ c.at.ensures e.2 c.value_own-in-SequenceExpression.ensures)
    (λ e. V.optional_own c.args.self.now.bounds c.args.depth (values_in c.args.self.now) c.args.slot _ c.at.ensures e.1 c.value_own-in-SequenceExpression.ensures) c.in-SequenceExpression.is
