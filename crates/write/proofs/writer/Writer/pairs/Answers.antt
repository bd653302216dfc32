use Rattle.write.proofs.Lay.{wrote_more}
use Rattle.write.proofs.writer.Writer.pairs.Goals as goal

pub returns : goal.returns
returns c = wrote_more c.pair.ensures (wrote_more c.pair-2.ensures (wrote_more c.pair-3.ensures c.pair-4.ensures))
