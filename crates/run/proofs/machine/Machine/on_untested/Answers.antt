use Rattle.std.proofs.Common.{vec_items, arith}
use Rattle.run.proofs.Turning.{held}
use Rattle.run.proofs.SwitchTurns.{select_rows, on_untested}
use Rattle.run.proofs.machine.Machine.on_untested.Goals as goal

pub passed-requires : goal.passed-requires
passed-requires g c =
    let b = select_rows _ _ _ _ _ _ (vec_items c.args.self.now.memory.now.frames) c.requires.due.normal c.args.label c.args.depth c.args.selection c.requires.due.ready.1 in
    let n = c.args.self.now.tables.now.arena.cases.table.vec.ok.0 in
    let e = c.args.self.now.tables.now.arena.cases.table.within in
    let y = c.requires.some in
    record { some = y; fits = omega arith; next = omega arith }

pub returns-clause-turns : goal.returns-clause-turns
returns-clause-turns g c = λ w l.
    held (rw (c.passed.ensures, c.or.ensures) at c.push.ensures.holds)
    (on_untested _ _ _ _ _ _ (vec_items c.args.self.now.memory.now.frames) c.requires.due.normal c.args.label c.args.depth c.args.selection l c.args.case c.requires.some c.requires.here c.requires.is)
