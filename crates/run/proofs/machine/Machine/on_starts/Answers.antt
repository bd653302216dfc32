use Rattle.std.proofs.Common.{vec_items}
use Rattle.run.proofs.Turning.{held, again}
use Rattle.run.proofs.LoopTurns.{on_starts}
use Rattle.run.proofs.machine.Machine.on_starts.Goals as goal

pub returns-clause-turns : goal.returns-clause-turns
returns-clause-turns g c = λ w l.
    held (again _ c.push.ensures.holds c.push-2.ensures.holds)
    (on_starts _ _ _ _ _ _ (vec_items c.args.self.now.memory.now.frames) c.requires.normal c.args.repeated c.args.label c.args.depth l)
