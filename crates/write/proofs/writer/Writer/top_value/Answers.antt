use Rattle.std.proofs.Common.{ℕ, Option, sym, subst}
use Rattle.hir.specs.Encode.{val_words}
use Rattle.hir.specs.Held.{value_slots}
use Rattle.hir.specs.Tree.{Val}
use Rattle.hir.proofs.Deepest.{top_from}
use Rattle.write.specs.Puts.{Writable, Written}
use Rattle.write.proofs.writer.Writer.top_value.Goals as goal

pub value_at-requires : goal.value_at-requires
value_at-requires c =
    subst (λ (f : ℕ → Option Val). Writable val_words (f c.args.slot) c.args.self.now) (sym (top_from c.deepest.result c.deepest.ensures (value_slots c.args.arena.now))) c.requires

pub returns : goal.returns
returns c =
    subst (λ (f : ℕ → Option Val). Written val_words (f c.args.slot) c.args.self.now c.value_at.new.self) (top_from c.deepest.result c.deepest.ensures (value_slots c.args.arena.now)) c.value_at.ensures
