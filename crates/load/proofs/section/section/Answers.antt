use Rattle.std.proofs.Common.{ap}
use Rattle.load.proofs.Lies.{words_part, part_near}
use Rattle.load.proofs.section.section.Goals as goal

pub invariant_of-result : goal.invariant_of-result
invariant_of-result c =
    record { near = part_near c.args.from c.args.to c.args.bytes.now c.requires.order c.requires.inside c.requires.near; limited = c.requires.limited }

pub returns : goal.returns
returns c = ap (λ l. record { at = c.args.from; rest = l; used = c.args.used }) (words_part c.args.from c.args.to c.args.bytes.now c.requires.order c.requires.inside)
