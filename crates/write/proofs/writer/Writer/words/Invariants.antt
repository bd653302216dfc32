use Rattle.std.proofs.Common.{◌≡◌, ◌+◌, take}
use Rattle.write.specs.Puts.{over}
use Rattle.write.proofs.writer.Writer.words.Given as goal

abbrev pub invariant-loop-word : goal.invariant-loop-word
invariant-loop-word l = (l.out ≡ over l.initial.out l.initial.at (take l.word-index l.words)) × (l.at ≡ l.initial.at + l.word-index)
