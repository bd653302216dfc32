use Rattle.std.proofs.Common.{[], ◌∷◌, ap}
use Rattle.hir.specs.Encode.{items_words, declaration_words}
use Rattle.hir.specs.Held.{owned}
use Rattle.write.proofs.Lay.{wrote_more, wrote_as}
use Rattle.write.proofs.writer.Writer.scope.Goals as goal

pub returns : goal.returns
returns c = wrote_more c.put.ensures (wrote_more (wrote_as (ap (λ n. n ∷ []) c.count_owned.ensures) c.word.ensures) (wrote_as (ap (λ ds. items_words declaration_words (owned c.args.number ds)) c.as_slice.ensures.value) c.owned.ensures))
