use Rattle.std.proofs.Common.{◌∙◌}
use Rattle.questions.specs.Pass.{values_in}
use Rattle.questions.proofs.ValueParts.{op_own}
use Rattle.questions.proofs.pass.Pass.operation.Goals as goal

pub returns : goal.returns
returns c = record { of = λ o e. c.and.ensures ∙ op_own c.args.self.now.bounds (values_in c.args.self.now) c.args.value o e c.row.ensures c.row-2.ensures c.places.ensures c.places-2.ensures c.writes.ensures c.reads.ensures }
