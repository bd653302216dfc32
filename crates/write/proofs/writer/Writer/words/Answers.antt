use Rattle.std.proofs.Common.{[], ◌∷◌, get_or, ◌∙◌, ap₂, arith}
use Rattle.write.specs.Puts.{over}
use Rattle.write.proofs.Lay.{over_next}
use Rattle.write.proofs.writer.Writer.words.Goals as goal

pub loop-word-preserved : goal.loop-word-preserved
loop-word-preserved c =
    let ws = c.args.words.now in
    let i = c.loop-word.word-index in (
      c.put_word.ensures
          ∙ ap₂ (λ o n. over o n (get_or ws i 0 ∷ [])) c.loop-word.invariant.0 c.loop-word.invariant.1
          ∙ over_next c.args.self.now.out.now c.args.self.now.at ws i c.loop-word-test.true c.requires.fits,
      omega arith,
    )
