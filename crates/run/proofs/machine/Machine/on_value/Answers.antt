use Rattle.std.proofs.Common.{vec_items, ◌∙◌, add-one, arith}
use Rattle.run.proofs.Turning.{held, again}
use Rattle.run.proofs.ValueTurns.{value_slot, on_logical, on_conditional, on_sequence, on_optional}
use Rattle.run.proofs.machine.Machine.on_value.Goals as goal

pub at-requires : goal.at-requires
at-requires g c =
    let v = value_slot _ _ _ _ _ _ (vec_items c.args.self.now.memory.now.frames) c.requires.normal c.args.slot c.args.depth c.requires.ready.1 in
    let n = c.args.self.now.tables.now.arena.inner.values.vec.ok.0 in
    omega arith

pub overflow_sub-depth : goal.overflow_sub-depth
overflow_sub-depth g c = (value_slot _ _ _ _ _ _ (vec_items c.args.self.now.memory.now.frames) c.requires.normal c.args.slot c.args.depth c.requires.ready.1).1

pub overflow_sub-depth-in-ConditionalExpression : goal.overflow_sub-depth-in-ConditionalExpression
overflow_sub-depth-in-ConditionalExpression g c = (value_slot _ _ _ _ _ _ (vec_items c.args.self.now.memory.now.frames) c.requires.normal c.args.slot c.args.depth c.requires.ready.1).1

pub overflow_sub-depth-in-SequenceExpression : goal.overflow_sub-depth-in-SequenceExpression
overflow_sub-depth-in-SequenceExpression g c = (value_slot _ _ _ _ _ _ (vec_items c.args.self.now.memory.now.frames) c.requires.normal c.args.slot c.args.depth c.requires.ready.1).1

pub overflow_sub-depth-in-OptionalExpression : goal.overflow_sub-depth-in-OptionalExpression
overflow_sub-depth-in-OptionalExpression g c = (value_slot _ _ _ _ _ _ (vec_items c.args.self.now.memory.now.frames) c.requires.normal c.args.slot c.args.depth c.requires.ready.1).1

pub returns-in-LogicalExpression-clause-turns : goal.returns-in-LogicalExpression-clause-turns
returns-in-LogicalExpression-clause-turns g c = λ w l.
    let s = c.in-LogicalExpression in
    held (again _ c.push.ensures.holds c.push-in-LogicalExpression.ensures.holds)
    (on_logical _ _ _ _ _ _ (vec_items c.args.self.now.memory.now.frames) c.requires.normal c.args.slot c.args.depth _ s.operator s.left s.right (c.payload_of.ensures ∙ add-one _) s.ensures l)

pub returns-in-ConditionalExpression-clause-turns : goal.returns-in-ConditionalExpression-clause-turns
returns-in-ConditionalExpression-clause-turns g c = λ w l.
    let s = c.in-ConditionalExpression in
    held (again _ c.push-in-ConditionalExpression.ensures.holds c.push-in-ConditionalExpression-2.ensures.holds)
    (on_conditional _ _ _ _ _ _ (vec_items c.args.self.now.memory.now.frames) c.requires.normal c.args.slot c.args.depth s.test s.consequent s.alternate s.ensures l)

pub returns-in-SequenceExpression-clause-turns : goal.returns-in-SequenceExpression-clause-turns
returns-in-SequenceExpression-clause-turns g c = λ w l.
    let s = c.in-SequenceExpression in
    held (again _ c.push-in-SequenceExpression.ensures.holds c.push-in-SequenceExpression-2.ensures.holds)
    (on_sequence _ _ _ _ _ _ (vec_items c.args.self.now.memory.now.frames) c.requires.normal c.args.slot c.args.depth s.instructions _ s.value s.ensures l)

pub returns-in-OptionalExpression-clause-turns : goal.returns-in-OptionalExpression-clause-turns
returns-in-OptionalExpression-clause-turns g c = λ w l.
    let s = c.in-OptionalExpression in
    held c.push-in-OptionalExpression.ensures.holds
    (on_optional _ _ _ _ _ _ (vec_items c.args.self.now.memory.now.frames) c.requires.normal c.args.slot c.args.depth s.value _ s.ensures l)
