use Rattle.std.proofs.Common.{◌≡◌, ℕ, suc, Bool, drop}
use Rattle.semantics.specs.Machine.{ask_each}
use Rattle.run.specs.Turn.{meaning, state_of}
use Rattle.run.proofs.operations.ask_each.Given as goal

abbrev pub invariant-loop-at : goal.invariant-loop-at
invariant-loop-at g l =
    let i = l.operation in
    (steps entries : ℕ) (recorded : Bool)
    → ask_each (meaning g.H.Host) i.kind i.payload l.values 1 l.written (state_of (g.H.Host.state l.initial.host) l.initial.store l.initial.given steps entries recorded)
    ≡ ask_each (meaning g.H.Host) i.kind i.payload l.values (suc l.at) (drop l.at l.written) (state_of (g.H.Host.state l.host) l.store l.given steps entries recorded)
