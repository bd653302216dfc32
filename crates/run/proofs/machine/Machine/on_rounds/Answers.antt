use Rattle.std.proofs.Common.{vec_items}
use Rattle.run.proofs.Turning.{held, again, again_round}
use Rattle.run.proofs.LoopTurns.{on_rounds_spent, rounds_test, rounds_block_first}
use Rattle.run.proofs.machine.Machine.on_rounds.Goals as goal

pub returns-then-not-pay-clause-turns : goal.returns-then-not-pay-clause-turns
returns-then-not-pay-clause-turns g c = λ w l.
    let p = c.pay.ensures.no c.if-not-pay.true in
    held p.1 (on_rounds_spent _ _ _ _ _ _ (vec_items c.args.self.now.memory.now.frames) c.requires.normal c.args.repeated c.args.label c.args.depth p.0 l)

pub returns-in-BlockFirst-clause-turns : goal.returns-in-BlockFirst-clause-turns
returns-in-BlockFirst-clause-turns g c = λ w l.
    let p = c.pay.ensures.yes c.if-not-pay.false in
    held (again_round _ _ (again _ (again _ (again _ p.1 c.push.ensures.holds) c.push-2.ensures.holds) c.push-3.ensures.holds) c.push_round.ensures)
    (rw c.test.ensures (rounds_block_first _ _ _ _ _ _ (vec_items c.args.self.now.memory.now.frames) c.requires.normal c.args.label c.args.depth p.0 c.args.repeated _ _ c.in-BlockFirst.is l))

pub returns-in_default-clause-turns : goal.returns-in_default-clause-turns
returns-in_default-clause-turns g c = λ w l.
    let p = c.pay.ensures.yes c.if-not-pay.false in
    held (again _ (again _ (again _ p.1 c.push.ensures.holds) c.push-2.ensures.holds) c.push-3.ensures.holds)
    (rw c.test.ensures (rounds_test _ _ _ _ _ _ (vec_items c.args.self.now.memory.now.frames) c.requires.normal c.args.label c.args.depth p.0 c.args.repeated c.in_default.not-BlockFirst l))
