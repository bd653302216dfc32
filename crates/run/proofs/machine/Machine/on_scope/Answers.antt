use Rattle.std.proofs.Common.{ℕ, ◌+◌, vec_items, sym, ap, ◌∙◌, arith}
use Rattle.hir.specs.Numbers.{flag_number}
use Rattle.run.proofs.Turning.{held, again}
use Rattle.run.proofs.BlockTurns.{entry_room, byte_is, byte_low, on_scope}
use Rattle.run.proofs.machine.Machine.on_scope.Goals as goal

pub overflow_add-self : goal.overflow_add-self
overflow_add-self g c =
    let e = entry_room _ _ _ _ _ _ (vec_items c.args.self.now.memory.now.frames) c.requires.due.normal c.args.slot c.args.depth c.requires.due.ready.1 in
    let f = c.from.ensures in
    let b = byte_low c.is_some.result in
    omega arith

pub returns-clause-turns : goal.returns-clause-turns
returns-clause-turns g c = λ w l.
    held (again _ c.push.ensures.holds c.push-2.ensures.holds)
    (on_scope _ _ _ _ _ _ (vec_items c.args.self.now.memory.now.frames) c.requires.due.normal c.args.slot c.args.depth c.record_of-recorded.result c.args.block _ (ap (λ (n : ℕ). c.args.self.now.memory.now.entries + n) (c.from.ensures ∙ byte_is _ ∙ ap flag_number c.is_some.ensures)) c.requires.here (sym c.record_of-recorded.ensures) l)
