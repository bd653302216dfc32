-- The words so far, and what is said from the next byte on, are what the text says.
use Rattle.std.proofs.Common.{vec_items}
use Rattle.text.proofs.Saying.{Stands}
use Rattle.text.proofs.read.words.Given as goal

abbrev pub invariant-loop-byte : goal.invariant-loop-byte
invariant-loop-byte l = Stands l.text (vec_items l.words) l.word l.at l.byte-index
