use Rattle.std.proofs.Common.{sym, ap}
use Rattle.hir.specs.Encode.{option_words}
use Rattle.write.proofs.Lay.{wrote_more, wrote_as}
use Rattle.write.proofs.encode.OptionEncode.put.Goals as goal

pub returns-in-Some : goal.returns-in-Some
returns-in-Some g c = wrote_as (ap (option_words g.T.Encode.words) (sym c.in-Some.is)) (wrote_more c.word-in-Some.ensures c.put.ensures)
