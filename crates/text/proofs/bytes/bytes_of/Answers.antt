use Rattle.std.proofs.Common.{arith}
use Rattle.std.proofs.lemmas.Grind.{common_steps}
use Rattle.text.proofs.Quads.{bytes_by_words}
use Rattle.text.proofs.bytes.bytes_of.Goals as goal

pub returns : goal.returns
returns c = rw (← bytes_by_words c.args.words.now) (grind (arith, common_steps))
