use Rattle.std.proofs.Common.{sym, ap, ◌∙◌}
use Rattle.std.proofs.lemmas.List.{drop_all}
use Rattle.run.specs.Operands.{stores}
use Rattle.run.proofs.Operating.{stores_next}
use Rattle.run.proofs.operands.store_all.Goals as goal

pub loop-place-preserved : goal.loop-place-preserved
loop-place-preserved c = c.loop-place.invariant ∙ stores_next _ _ _ c.loop-place-test.true _ _ _ c.write.ensures

pub returns : goal.returns
returns c =
    let l = c.loop-place in
    sym (l.invariant ∙ ap (stores l.store c.args.value) (drop_all l.place-index c.args.places.now c.loop-place-test.false))
