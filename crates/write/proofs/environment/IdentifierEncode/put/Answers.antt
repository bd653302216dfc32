use Rattle.write.proofs.Lay.{wrote_more}
use Rattle.write.proofs.environment.IdentifierEncode.put.Goals as goal

pub returns : goal.returns
returns c = wrote_more c.word.ensures (wrote_more c.put.ensures (wrote_more c.word-2.ensures (wrote_more c.put-2.ensures c.words.ensures)))
