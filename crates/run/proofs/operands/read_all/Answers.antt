use Rattle.std.proofs.Common.{List, ◌++◌, vec_items, sym, ap, ◌∙◌, append-nil, arith}
use Rattle.std.proofs.lemmas.List.{drop_all}
use Rattle.hir.specs.declared.place.Place.{Place}
use Rattle.run.specs.Operands.{reads}
use Rattle.run.proofs.Operating.{reads_next}
use Rattle.run.proofs.operands.read_all.Goals as goal

pub loop-place-preserved : goal.loop-place-preserved
loop-place-preserved c =
    let i = c.loop-place.invariant in
    let p = c.push_reserved.ensures in
    (i.0 ∙ reads_next _ _ _ c.loop-place-test.true _ _ _ _ c.read.ensures p.items, omega arith, p.capacity ∙ i.2)

pub returns-clause-items : goal.returns-clause-items
returns-clause-items c =
    let l = c.loop-place in
    sym (l.invariant.0 ∙ ap (λ (ps : List Place). vec_items l.values ++ reads c.args.store.now ps) (drop_all l.place-index c.args.places.now c.loop-place-test.false) ∙ append-nil _)
