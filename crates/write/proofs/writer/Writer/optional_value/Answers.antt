use Rattle.std.proofs.Common.{arith}
use Rattle.write.proofs.Lay.{wrote_more, wrote_as}
use Rattle.write.proofs.writer.Writer.optional_value.Goals as goal

pub returns-in-Some : goal.returns-in-Some
returns-in-Some c = wrote_as (grind arith) (wrote_more c.word-in-Some.ensures c.top_value.ensures)
