use Rattle.std.proofs.Common.{vec_items, arith}
use Rattle.run.proofs.Turning.{held}
use Rattle.run.proofs.SwitchTurns.{select_rows, chosen_within, on_selects_end}
use Rattle.run.proofs.machine.Machine.on_unselected.Goals as goal

pub choose-requires : goal.choose-requires
choose-requires g c =
    let b = select_rows _ _ _ _ _ _ (vec_items c.args.self.now.memory.now.frames) c.requires.due.normal c.args.label c.args.depth c.args.selection c.requires.due.ready.1 in
    let p = chosen_within _ _ _ _ _ _ (vec_items c.args.self.now.memory.now.frames) c.requires.due.normal c.args.label c.args.depth c.args.selection c.requires.due.ready.1 in
    let q = c.unwrap_or-place.ensures in
    let n = c.args.self.now.tables.now.arena.cases.table.vec.ok.0 in
    let e = c.args.self.now.tables.now.arena.cases.table.within in
    let r = c.requires.due.room in
    record { room = omega arith; within = omega arith; fits = omega arith }

pub returns-clause-turns : goal.returns-clause-turns
returns-clause-turns g c = λ w l.
    held c.choose.ensures
    (on_selects_end _ _ _ _ _ _ (vec_items c.args.self.now.memory.now.frames) c.requires.due.normal c.args.label c.args.depth c.args.selection l _ c.requires.none c.unwrap_or-place.ensures)
