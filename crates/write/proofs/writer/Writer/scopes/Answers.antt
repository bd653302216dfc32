use Rattle.std.proofs.Common.{vec_items, ap}
use Rattle.std.proofs.lemmas.List.{drop_all}
use Rattle.hir.specs.Encode.{items_words, scope_words}
use Rattle.hir.specs.Held.{scopes_from}
use Rattle.write.proofs.Left.{left_more, left_end}
use Rattle.write.proofs.Owned.{scopes_more}
use Rattle.write.proofs.writer.Writer.scopes.Goals as goal

pub loop-number-preserved : goal.loop-number-preserved
loop-number-preserved c = left_more c.loop-number.invariant (scopes_more c.args.scopes.now (vec_items c.args.declared.now.vec) c.loop-number.number _ c.loop-number-test.true) c.scope.ensures

pub returns : goal.returns
returns c = left_end c.loop-number.invariant (ap (λ l. items_words scope_words (scopes_from c.loop-number.number l (vec_items c.args.declared.now.vec))) (drop_all c.loop-number.number c.args.scopes.now c.loop-number-test.false))
