use Rattle.std.proofs.Common.{◌≡◌, drop}
use Rattle.run.specs.Operands.{stores}
use Rattle.run.proofs.operands.store_all.Given as goal

abbrev pub invariant-loop-place : goal.invariant-loop-place
invariant-loop-place l = stores l.initial.store l.value l.places ≡ stores l.store l.value (drop l.place-index l.places)
