use Rattle.std.proofs.Common.{vec_items, arith}
use Rattle.run.proofs.SwitchTurns.{select_rows}
use Rattle.run.proofs.machine.Machine.on_case.Goals as goal

pub at-case-requires : goal.at-case-requires
at-case-requires g c =
    let b = select_rows _ _ _ _ _ _ (vec_items c.args.self.now.memory.now.frames) c.requires.due.normal c.args.label c.args.depth c.args.selection c.requires.due.ready.1 in
    let n = c.args.self.now.tables.now.arena.cases.table.vec.ok.0 in
    let z = c.requires.some in
    omega arith
