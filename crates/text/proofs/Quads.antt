-- Four bytes after another, as words; and words, as four bytes each.
use Rattle.std.proofs.Common.{◌≡◌, ℕ, zero, suc, ◌+◌, ◌*◌, ◌/◌, ◌<◌, ◌≤◌, List, [], ◌∷◌, ◌++◌, length, map, refl, ap, arith, w32}
use Rattle.std.specs.Int.{from_le_bytes, to_le_bytes}
use Rattle.std.specs.List.{flat_map}
use Rattle.std.specs.Simd.{first_chunks}
use Rattle.format.specs.Words.{words, bytes}

by : (n : ℕ) (bs : List ℕ) → n * 4 ≤ length bs → length bs < n * 4 + 4 → map (from_le_bytes w32) (first_chunks 4 n bs) ≡ words bs
by zero [] h k = refl
by zero (a ∷ []) h k = refl
by zero (a ∷ b ∷ []) h k = refl
by zero (a ∷ b ∷ c ∷ []) h k = refl
by zero (a ∷ b ∷ c ∷ d ∷ bs) h k = absurd (omega arith)
by (suc n) [] h k = absurd (omega arith)
by (suc n) (a ∷ []) h k = absurd (omega arith)
by (suc n) (a ∷ b ∷ []) h k = absurd (omega arith)
by (suc n) (a ∷ b ∷ c ∷ []) h k = absurd (omega arith)
by (suc n) (a ∷ b ∷ c ∷ d ∷ bs) h k = ap (λ ws. from_le_bytes w32 (a ∷ b ∷ c ∷ d ∷ []) ∷ ws) (by n bs (omega arith) (omega arith))

pub words_by_quads : (bs : List ℕ) → map (from_le_bytes w32) (first_chunks 4 (length bs / 4) bs) ≡ words bs
words_by_quads bs = by (length bs / 4) bs (omega arith) (omega arith)

pub bytes_by_words : (ws : List ℕ) → flat_map (to_le_bytes w32) ws ≡ bytes ws
bytes_by_words [] = refl
bytes_by_words (w ∷ ws) = ap (λ bs. to_le_bytes w32 w ++ bs) (bytes_by_words ws)
