use Rattle.std.proofs.Common.{rules}
use Rattle.std.proofs.lemmas.Grind.{common_steps}
use Rattle.rewrite.proofs.Same.{all_bytes, back_or_kept}
use Rattle.rewrite.proofs.rewrite.Goals as goal

pub returns-clause-answer : goal.returns-clause-answer
returns-clause-answer c =
    back_or_kept c.args.bytes.now c.args.out.now _ c.load.new.tables _ c.write.result _ (all_bytes c.args.bytes.now c.type_inv.bytes) c.in_ok-settled.ensures.answer c.write.ensures (search (rules, common_steps))
