use Rattle.std.proofs.Common.{arith}
use Rattle.write.proofs.Lay.{wrote_more, wrote_as}
use Rattle.write.proofs.writer.Writer.operation.Goals as goal

pub returns : goal.returns
returns c = wrote_as (grind arith) (wrote_more c.words.ensures (wrote_more c.list.ensures (wrote_more c.list-2.ensures c.word.ensures)))
