use Rattle.std.proofs.Common.{vec_items}
use Rattle.run.proofs.StepTurns.{on_assigns}
use Rattle.run.proofs.machine.Machine.on_assigns.Goals as goal

pub returns-clause-turns : goal.returns-clause-turns
returns-clause-turns g c = λ w l. on_assigns _ _ _ _ _ _ (vec_items c.args.self.now.memory.now.frames) c.requires.normal c.args.place _ c.assign.ensures l
