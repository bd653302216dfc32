use Rattle.write.proofs.Lay.{wrote_more}
use Rattle.write.proofs.writer.Writer.list.Goals as goal

pub returns : goal.returns
returns g c = wrote_more c.word.ensures c.items.ensures
