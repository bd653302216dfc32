-- Lowering as a change of functions, and that it is faithful. Assumes nothing.
use Rattle.std.specs.Prelude.{◌≡◌, Some, Option}
use Rattle.hir.specs.Tree.{Function}
use Rattle.simulation.specs.WellFormed.{WellFormed}
use Rattle.simulation.specs.Faithful.{Faithful}
use Rattle.early_returns.specs.Lowering.{lowered}

-- with room for everything that it adds
abbrev pub lowering : Function → Option Function
lowering F = Some (lowered F)

-- a change that lowers what it does not refuse
abbrev pub Lowers : (Function → Option Function) → Type 0
Lowers f = (F F' : Function) → WellFormed F → f F ≡ Some F' → F' ≡ lowered F

pub record LoweringFaithful (S : Type 0) : Type 0 where
  pub with_room : Faithful S lowering
  pub unless_refused : (f : Function → Option Function) → Lowers f → Faithful S f
