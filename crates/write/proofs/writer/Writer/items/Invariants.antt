use Rattle.std.proofs.Common.{drop}
use Rattle.hir.specs.Encode.{items_words}
use Rattle.write.proofs.Left.{Left}
use Rattle.write.proofs.writer.Writer.items.Given as goal

abbrev pub invariant-loop-item : goal.invariant-loop-item
invariant-loop-item g l = Left l.initial.self l.self (items_words g.T.Encode.words l.items) (items_words g.T.Encode.words (drop l.item-index l.items))
