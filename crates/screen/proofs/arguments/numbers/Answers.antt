-- A turn reads one word.
use Rattle.std.proofs.Common.{◌≡◌, ◌<◌, Some, None, map, length, string_bytes, sym, ap, ◌∙◌, arith}
use Rattle.std.proofs.lemmas.List.{length-map}
use Rattle.std.proofs.lemmas.Result.{err_from_is_err_and}
use Rattle.screen.specs.Number.{number_of}
use Rattle.screen.specs.declared.arguments.ArgumentFault.TheVariants.{Usage}
use Rattle.screen.proofs.Numbers.{counted_more, counted_refused, word_at}
use Rattle.screen.proofs.arguments.numbers.Goals as goal

pub returns-in_err-ok_or : goal.returns-in_err-ok_or
returns-in_err-ok_or c =
    let p = err_from_is_err_and c.from_residual.result c.from_residual.ensures.1 in
    let xs = c.args.words.now in
    let within : c.loop-word.word-index < length (map string_bytes xs) = rw length-map c.loop-word-test.true in
    let none : c.number.result ≡ None = grind arith in
    let usage : c.in_err-ok_or.field-0.0 ≡ Usage = grind arith in
    rw (p.1, p.2, usage)
    (counted_refused (map string_bytes xs) _ c.loop-word.word-index within
    (sym none ∙ c.number.ensures ∙ ap number_of (c.as_bytes.ensures.value ∙ word_at string_bytes xs c.loop-word.word-index c.word-item.result c.loop-word-test.true c.word-item.is))
    c.loop-word.invariant)

pub loop-word-preserved : goal.loop-word-preserved
loop-word-preserved c =
    let xs = c.args.words.now in
    let within : c.loop-word.word-index < length (map string_bytes xs) = rw length-map c.loop-word-test.true in
    let some : c.number.result ≡ Some c.in_ok-ok_or.field-0 = grind arith in
    rw c.in_ok-push.ensures.items
    (counted_more (map string_bytes xs) _ c.loop-word.word-index c.in_ok-ok_or.field-0 within
    (sym some ∙ c.number.ensures ∙ ap number_of (c.as_bytes.ensures.value ∙ word_at string_bytes xs c.loop-word.word-index c.word-item.result c.loop-word-test.true c.word-item.is))
    c.loop-word.invariant)
