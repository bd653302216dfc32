use Rattle.std.proofs.Common.{rules}
use Rattle.std.proofs.lemmas.Grind.{common_steps}
use Rattle.text.proofs.Quads.{words_by_quads}
use Rattle.text.proofs.bytes.words_of.Goals as goal

pub returns : goal.returns
returns c =
    rw (← words_by_quads c.args.bytes.now) (search (rules, common_steps))
