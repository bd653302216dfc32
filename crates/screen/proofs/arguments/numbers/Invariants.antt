-- The values so far, and what the rest of the words says, are what all the words say.
use Rattle.std.proofs.Common.{map, vec_items, string_bytes}
use Rattle.screen.proofs.Numbers.{Counted}
use Rattle.screen.proofs.arguments.numbers.Given as goal

abbrev pub invariant-loop-word : goal.invariant-loop-word
invariant-loop-word l = Counted (map string_bytes l.words) (vec_items l.values) l.word-index
