-- The bytes of the words so far.
use Rattle.std.proofs.Common.{◌≡◌, take, vec_items, w32}
use Rattle.std.specs.Int.{to_le_bytes}
use Rattle.std.specs.List.{flat_map}
use Rattle.text.proofs.bytes.bytes_of.Given as goal

abbrev pub invariant-loop-word : goal.invariant-loop-word
invariant-loop-word l = vec_items l.bytes ≡ flat_map (to_le_bytes w32) (take l.word-index l.words)
