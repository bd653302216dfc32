use Rattle.std.proofs.Common.{ℕ, Option, sym, subst}
use Rattle.hir.specs.Decode.{instr_of}
use Rattle.hir.specs.Encode.{instr_words}
use Rattle.hir.specs.Held.{value_slots}
use Rattle.hir.specs.Tree.{Val}
use Rattle.hir.proofs.Deepest.{top_from}
use Rattle.write.specs.Puts.{Writable, Written}
use Rattle.write.proofs.writer.Writer.top_instruction.Goals as goal

pub instruction-requires : goal.instruction-requires
instruction-requires c =
    subst (λ (f : ℕ → Option Val). Writable instr_words (instr_of f c.args.instruction) c.args.self.now) (sym (top_from c.deepest.result c.deepest.ensures (value_slots c.args.arena.now))) c.requires

pub returns : goal.returns
returns c =
    subst (λ (f : ℕ → Option Val). Written instr_words (instr_of f c.args.instruction) c.args.self.now c.instruction.new.self) (top_from c.deepest.result c.deepest.ensures (value_slots c.args.arena.now)) c.instruction.ensures
