-- A slot at the greatest depth stands for what it stands for at the top. Assumes nothing.
use Rattle.std.proofs.Common.{◌≡◌, ℕ, ap}
use Rattle.hir.specs.Decode.{ValueSlots, Slots, value_of, top_value, block_of, root_of}

pub top_from : (d : ℕ) → d ≡ 64 → (a : ValueSlots) → value_of d a ≡ top_value a
unfolding top_value
top_from d e a = ap (λ (n : ℕ). value_of n a) e

pub root_from : (d : ℕ) → d ≡ 64 → (a : Slots) → block_of d a ≡ root_of a
unfolding root_of
root_from d e a = ap (λ (n : ℕ). block_of n a) e
