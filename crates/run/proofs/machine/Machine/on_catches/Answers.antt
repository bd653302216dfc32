use Rattle.std.proofs.Common.{vec_items}
use Rattle.run.proofs.Turning.{held}
use Rattle.run.proofs.EndTurns.{on_catches_threw, on_catches_passed}
use Rattle.run.proofs.machine.Machine.on_catches.Goals as goal

pub returns-in-Threw-clause-turns : goal.returns-in-Threw-clause-turns
returns-in-Threw-clause-turns g c = λ w l.
    held c.push.ensures.holds (on_catches_threw _ _ _ _ _ _ (vec_items c.args.self.now.memory.now.frames) c.args.binding c.args.handler c.args.depth _ _ c.in-Threw.is c.assign.ensures l)

pub returns-in_default-clause-turns : goal.returns-in_default-clause-turns
returns-in_default-clause-turns g c = λ w l. on_catches_passed _ _ _ _ _ _ (vec_items c.args.self.now.memory.now.frames) c.args.binding c.args.handler c.args.depth c.in_default.not-Threw l
