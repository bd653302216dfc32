use Rattle.write.proofs.Lay.{wrote_more}
use Rattle.write.proofs.writer.Writer.leave.Goals as goal

pub returns : goal.returns
returns c = wrote_more c.word.ensures (wrote_more c.put.ensures c.word-2.ensures)
