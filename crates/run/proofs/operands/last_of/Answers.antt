use Rattle.std.proofs.Common.{◌∙◌}
use Rattle.run.proofs.Operating.{last_holds}
use Rattle.run.proofs.operands.last_of.Goals as goal

pub returns-in-Some : goal.returns-in-Some
returns-in-Some c = c.read.ensures ∙ last_holds c.args.store.now 0 c.args.places.now _ c.in-Some.ensures.value
