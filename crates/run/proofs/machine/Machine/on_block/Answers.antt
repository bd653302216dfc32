use Rattle.std.proofs.Common.{vec_items, arith}
use Rattle.run.proofs.Rows.{behind_is}
use Rattle.run.proofs.Turning.{held, again}
use Rattle.run.proofs.BlockTurns.{block_row, on_block_end, on_block_spent, on_block_first}
use Rattle.run.proofs.machine.Machine.on_block.Goals as goal

pub returns-then-rest-eq0-clause-turns : goal.returns-then-rest-eq0-clause-turns
returns-then-rest-eq0-clause-turns g c = λ w l. on_block_end _ _ _ _ _ _ (vec_items c.args.self.now.memory.now.frames) c.requires.normal c.args.rest c.args.depth c.if-rest-eq0.true l

pub at-slot-requires : goal.at-slot-requires
at-slot-requires g c =
    let b = (block_row _ _ _ _ _ _ (vec_items c.args.self.now.memory.now.frames) c.requires.normal c.args.rest c.args.depth c.requires.ready.1).0 in
    let n = c.args.self.now.tables.now.arena.entries.table.vec.ok.0 in
    let z = c.if-rest-eq0.false in
    omega arith

pub returns-then-not-pay-clause-turns : goal.returns-then-not-pay-clause-turns
returns-then-not-pay-clause-turns g c = λ w l.
    let z = c.if-rest-eq0.false in
    let p = c.pay.ensures.no c.if-not-pay.true in
    held p.1 (on_block_spent _ _ _ _ _ _ (vec_items c.args.self.now.memory.now.frames) c.requires.normal c.args.rest c.args.depth c.at-slot.result (omega arith) c.at-slot.ensures p.0 l)

pub behind-rest-requires-clause-fits : goal.behind-rest-requires-clause-fits
behind-rest-requires-clause-fits g c =
    let b = (block_row _ _ _ _ _ _ (vec_items c.args.self.now.memory.now.frames) c.requires.normal c.args.rest c.args.depth c.requires.ready.1).0 in
    let n = c.args.self.now.tables.now.arena.entries.table.vec.ok.0 in
    let e = c.args.self.now.tables.now.arena.entries.table.within in
    omega arith

pub overflow_sub-depth : goal.overflow_sub-depth
overflow_sub-depth g c = (block_row _ _ _ _ _ _ (vec_items c.args.self.now.memory.now.frames) c.requires.normal c.args.rest c.args.depth c.requires.ready.1).1

pub returns-clause-turns : goal.returns-clause-turns
returns-clause-turns g c = λ w l.
    let z = c.if-rest-eq0.false in
    let p = c.pay.ensures.yes c.if-not-pay.false in
    held (again _ (again _ p.1 (rw (behind_is _ _ _ c.behind-rest.ensures.start c.behind-rest.ensures.count) at c.push.ensures.holds)) c.push-2.ensures.holds)
    (on_block_first _ _ _ _ _ _ (vec_items c.args.self.now.memory.now.frames) c.requires.normal c.args.rest c.args.depth c.at-slot.result (omega arith) c.at-slot.ensures p.0 l)
