use Rattle.std.proofs.Common.{length, ap, arith, ltb-false}
use Rattle.std.proofs.lemmas.List.{take_rest}
use Rattle.format.specs.Words.{words}
use Rattle.load.proofs.Fronts.{words_first, word_here}
use Rattle.load.proofs.reader.Reader.word.Goals as goal

pub invariant_of-self : goal.invariant_of-self
invariant_of-self c =
    let first = words_first c.args.self.now.rest.now (omega (arith, ltb-false)) in
    let rest = take_rest c.args.self.now.rest.now 4 in
    record { near = omega (arith, ap length first, ap (λ l. length (words l)) rest, c.args.self.now.near); limited = c.args.self.now.limited }

pub returns-in-len4-up : goal.returns-in-len4-up
returns-in-len4-up c =
    word_here c.args.self.now.at c.args.self.now.used c.args.self.now.rest.now _ c.from_le_bytes-w.result (omega (arith, ltb-false)) c.from_le_bytes-w.ensures (take_rest c.args.self.now.rest.now 4)
