use Rattle.std.proofs.Common.{Option, sym, subst}
use Rattle.hir.specs.declared.range.Range.{Range}
use Rattle.hir.specs.Encode.{block_words}
use Rattle.hir.specs.Held.{slots}
use Rattle.hir.specs.Tree.{Block}
use Rattle.hir.proofs.Deepest.{root_from}
use Rattle.write.specs.Puts.{Writable, Written}
use Rattle.write.proofs.writer.Writer.body.Goals as goal

pub block-requires : goal.block-requires
block-requires c =
    subst (λ (f : Range → Option Block). Writable block_words (f c.args.root) c.args.self.now) (sym (root_from c.deepest.result c.deepest.ensures (slots c.args.arena.now))) c.requires

pub returns : goal.returns
returns c =
    subst (λ (f : Range → Option Block). Written block_words (f c.args.root) c.args.self.now c.block.new.self) (root_from c.deepest.result c.deepest.ensures (slots c.args.arena.now)) c.block.ensures
