use Rattle.std.proofs.Common.{vec_items}
use Rattle.hir.specs.Held.{slots}
use Rattle.semantics.specs.Machine.{Result}
use Rattle.run.specs.Frames.{measure}
use Rattle.run.specs.Turn.{At, Same, whole_weight}
use Rattle.run.proofs.machine.Machine.go.Given as goal

abbrev pub invariant-loop-frame : goal.invariant-loop-frame
invariant-loop-frame g l =
    Same l.initial.self l.self
    × ((w : Result g.H.Host.State) → At g.H.Host w l.initial.self (vec_items l.initial.self.memory.now.frames) → At g.H.Host w l.self (vec_items l.self.memory.now.frames))

abbrev pub decreases-loop-frame : goal.decreases-loop-frame
decreases-loop-frame g l = measure (slots l.self.tables.now.arena) l.self.budget (whole_weight l.self.tables.now) l.self.memory.now.steps (vec_items l.self.memory.now.frames)
