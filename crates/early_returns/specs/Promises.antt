-- What is promised of lowering besides that it is faithful. Assumes nothing.
use Rattle.std.specs.Prelude.{◌≡◌}
use Rattle.hir.specs.Tree.{Function}
use Rattle.simulation.specs.WellFormed.{WellFormed}
use Rattle.early_returns.specs.Lowering.{lowered}
use Rattle.early_returns.specs.Pass.{propagate_early_returns}

-- the pass as it is published and the description are the same
abbrev pub PassIsDescription : Type 0
PassIsDescription = (F : Function) → WellFormed F → propagate_early_returns F ≡ lowered F

-- a lowered function lowered again is the same
abbrev pub LoweredOnce : Type 0
LoweredOnce = (F : Function) → WellFormed F → lowered (lowered F) ≡ lowered F
