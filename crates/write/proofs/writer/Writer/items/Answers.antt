use Rattle.std.proofs.Common.{ap}
use Rattle.std.proofs.lemmas.List.{drop_all}
use Rattle.hir.specs.Encode.{items_words}
use Rattle.write.proofs.Left.{left_more, left_end, rest_is}
use Rattle.write.proofs.writer.Writer.items.Goals as goal

pub loop-item-preserved : goal.loop-item-preserved
loop-item-preserved g c =
    left_more c.loop-item.invariant (ap (items_words g.T.Encode.words) (rest_is c.args.items.now c.loop-item.item-index _ c.loop-item-test.true c.item-item.is)) c.put.ensures

pub returns : goal.returns
returns g c = left_end c.loop-item.invariant (ap (items_words g.T.Encode.words) (drop_all c.loop-item.item-index c.args.items.now c.loop-item-test.false))
