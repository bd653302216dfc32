use Rattle.std.proofs.Common.{◌≡◌, ◌+◌, ◌++◌, drop, vec_items, vec_len, vec_capacity}
use Rattle.run.specs.Operands.{reads}
use Rattle.run.proofs.operands.read_all.Given as goal

abbrev pub invariant-loop-place : goal.invariant-loop-place
invariant-loop-place l =
    (vec_items l.initial.values ++ reads l.store l.places ≡ vec_items l.values ++ reads l.store (drop l.place-index l.places))
    × (vec_len l.values ≡ vec_len l.initial.values + l.place-index)
    × (vec_capacity l.values ≡ vec_capacity l.initial.values)
