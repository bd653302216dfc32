use Rattle.std.proofs.Common.{vec_items, arith}
use Rattle.hir.specs.Held.{value_slots}
use Rattle.run.proofs.Operating.{slot_rows, done_as}
use Rattle.run.proofs.Rows.{is_row}
use Rattle.run.proofs.Turning.{exited}
use Rattle.run.proofs.ValueTurns.{on_operation}
use Rattle.run.proofs.machine.Machine.on_operation.Goals as goal

pub row-requires : goal.row-requires
row-requires g c =
    let r = slot_rows _ _ _ _ _ _ (vec_items c.args.self.now.memory.now.frames) c.requires.due.normal c.args.slot c.args.depth c.args.operation c.requires.here c.requires.due.ready.1 in
    let n = c.args.self.now.tables.now.arena.inner.places.vec.ok.0 in
    omega arith

pub row-requires-2 : goal.row-requires-2
row-requires-2 g c =
    let r = slot_rows _ _ _ _ _ _ (vec_items c.args.self.now.memory.now.frames) c.requires.due.normal c.args.slot c.args.depth c.args.operation c.requires.here c.requires.due.ready.1 in
    let n = c.args.self.now.tables.now.arena.inner.places.vec.ok.0 in
    omega arith

pub returns-in-Err-clause-turns : goal.returns-in-Err-clause-turns
returns-in-Err-clause-turns g c = λ w l.
    let r = slot_rows _ _ _ _ _ _ (vec_items c.args.self.now.memory.now.frames) c.requires.due.normal c.args.slot c.args.depth c.args.operation c.requires.here l in
    on_operation _ _ _ _ _ _ (vec_items c.args.self.now.memory.now.frames) c.requires.due.normal c.args.slot c.args.depth c.args.operation _ _ _ _ c.requires.here
    (λ o e. done_as _ (value_slots c.args.self.now.tables.now.arena.inner) c.args.operation o _ _ (is_row _ _ _ r.0 c.row-2.ensures) (is_row _ _ _ r.1 c.row.ensures) e _ _ (c.in-Err.ensures.does c.args.self.now.memory.now.steps c.args.self.now.memory.now.entries c.args.self.now.memory.now.recorded)) l

pub returns-in_default-clause-turns : goal.returns-in_default-clause-turns
returns-in_default-clause-turns g c = λ w l.
    let r = slot_rows _ _ _ _ _ _ (vec_items c.args.self.now.memory.now.frames) c.requires.due.normal c.args.slot c.args.depth c.args.operation c.requires.here l in
    exited c.requires.due.normal (on_operation _ _ _ _ _ _ (vec_items c.args.self.now.memory.now.frames) c.requires.due.normal c.args.slot c.args.depth c.args.operation _ _ _ _ c.requires.here
    (λ o e. done_as _ (value_slots c.args.self.now.tables.now.arena.inner) c.args.operation o _ _ (is_row _ _ _ r.0 c.row-2.ensures) (is_row _ _ _ r.1 c.row.ensures) e _ _ (c.in_default.ensures.does c.args.self.now.memory.now.steps c.args.self.now.memory.now.entries c.args.self.now.memory.now.recorded)) l)
