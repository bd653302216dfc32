use Rattle.std.proofs.Common.{vec_items, arith}
use Rattle.run.proofs.Rows.{behind_is}
use Rattle.run.proofs.Turning.{held, again}
use Rattle.run.proofs.StepTurns.{instrs_row, on_instrs_end, on_instrs_spent, on_instrs_first}
use Rattle.run.proofs.machine.Machine.on_instructions.Goals as goal

pub returns-then-rest-eq0-clause-turns : goal.returns-then-rest-eq0-clause-turns
returns-then-rest-eq0-clause-turns g c = λ w l. on_instrs_end _ _ _ _ _ _ (vec_items c.args.self.now.memory.now.frames) c.requires.normal c.args.rest c.args.depth c.if-rest-eq0.true l

pub at-instruction-requires : goal.at-instruction-requires
at-instruction-requires g c =
    let b = instrs_row _ _ _ _ _ _ (vec_items c.args.self.now.memory.now.frames) c.requires.normal c.args.rest c.args.depth c.requires.ready.1 in
    let n = c.args.self.now.tables.now.arena.inner.instructions.table.vec.ok.0 in
    let z = c.if-rest-eq0.false in
    omega arith

pub returns-then-not-pay-clause-turns : goal.returns-then-not-pay-clause-turns
returns-then-not-pay-clause-turns g c = λ w l.
    let z = c.if-rest-eq0.false in
    let p = c.pay.ensures.no c.if-not-pay.true in
    held p.1 (on_instrs_spent _ _ _ _ _ _ (vec_items c.args.self.now.memory.now.frames) c.requires.normal c.args.rest c.args.depth c.at-instruction.result (omega arith) c.at-instruction.ensures p.0 l)

pub behind-rest-requires-clause-fits : goal.behind-rest-requires-clause-fits
behind-rest-requires-clause-fits g c =
    let b = instrs_row _ _ _ _ _ _ (vec_items c.args.self.now.memory.now.frames) c.requires.normal c.args.rest c.args.depth c.requires.ready.1 in
    let n = c.args.self.now.tables.now.arena.inner.instructions.table.vec.ok.0 in
    let e = c.args.self.now.tables.now.arena.inner.instructions.table.within in
    omega arith

pub returns-clause-turns : goal.returns-clause-turns
returns-clause-turns g c = λ w l.
    let z = c.if-rest-eq0.false in
    let p = c.pay.ensures.yes c.if-not-pay.false in
    held (again _ (again _ (again _ p.1 (rw (behind_is _ _ _ c.behind-rest.ensures.start c.behind-rest.ensures.count) at c.push.ensures.holds)) c.push-2.ensures.holds) c.push-3.ensures.holds)
    (on_instrs_first _ _ _ _ _ _ (vec_items c.args.self.now.memory.now.frames) c.requires.normal c.args.rest c.args.depth c.at-instruction.result (omega arith) c.at-instruction.ensures p.0 l)
