use Rattle.run.proofs.Whole.{left}
use Rattle.run.proofs.machine.Machine.go.Goals as goal

pub turn-requires : goal.turn-requires
turn-requires g c =
    let p = c.in-Some.ensures in
    (c.requires.0, left p.0 p.1 (c.loop-frame.invariant.1 c.requires.0 c.requires.1))

pub loop-frame-smaller : goal.loop-frame-smaller
loop-frame-smaller g c =
    let p = c.in-Some.ensures in
    let s = c.turn.ensures.same in
    rw (s.tables, s.budget, p.0, ← p.1.steps) (c.turn.ensures.turns c.requires.0 (left p.0 p.1 (c.loop-frame.invariant.1 c.requires.0 c.requires.1))).less
