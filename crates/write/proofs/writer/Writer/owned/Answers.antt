use Rattle.std.proofs.Common.{refl, ap}
use Rattle.std.proofs.lemmas.List.{drop_all}
use Rattle.hir.specs.Encode.{items_words, declaration_words}
use Rattle.hir.specs.Held.{owned}
use Rattle.write.proofs.Left.{left_more, left_end, left_as}
use Rattle.write.proofs.Owned.{owned_taken, owned_passed}
use Rattle.write.proofs.writer.Writer.owned.Goals as goal
use Rattle.write.proofs.writer.Writer.owned.Goals.{then-one-owner, else-one-owner}

pub loop-one-preserved : goal.loop-one-preserved
loop-one-preserved c =
    elim c.if-one-owner.branch [
      | then-one-owner w ↦
          left_as w.self-is refl (left_more c.loop-one.invariant (owned_taken c.args.owner c.args.declared.now c.loop-one.one-index _ c.loop-one-test.true w.if-one-owner.true) w.put.ensures)
      | else-one-owner w ↦
          left_as w.self-is (owned_passed c.args.owner c.args.declared.now c.loop-one.one-index _ c.loop-one-test.true w.if-one-owner.false) c.loop-one.invariant
    ]

pub returns : goal.returns
returns c = left_end c.loop-one.invariant (ap (λ l. items_words declaration_words (owned c.args.owner l)) (drop_all c.loop-one.one-index c.args.declared.now c.loop-one-test.false))
