-- The rows of a sequence's instructions.
use Rattle.std.proofs.Common.{ℕ, List, Option, refl}
use Rattle.hir.specs.declared.value.ReactiveInstruction.{ReactiveInstruction}
use Rattle.hir.specs.Decode.{Slots, instr_of, instrs_of, value_of}
use Rattle.hir.specs.Tree.{Instr, Instrs, inil, icons}
use Rattle.questions.specs.declared.line.Bounds.{Bounds}
use Rattle.questions.specs.Questions.{instr_lines, instrs_lines}
use Rattle.questions.proofs.Row.{Rows}

abbrev pub one_instr : ℕ → Slots → ReactiveInstruction → Option Instr
one_instr d a i = instr_of (value_of d a.inner) i

abbrev pub some_instrs : ℕ → Slots → List ReactiveInstruction → Option Instrs
some_instrs d a is = instrs_of (value_of d a.inner) is

pub instr_rows : (d : ℕ) (a : Slots) (B : Bounds) → Rows (one_instr d a) (some_instrs d a) (instr_lines B) (instrs_lines B)
instr_rows d a B = record { none = inil; join = λ i x xs. icons x xs; many_none = refl; many_more = λ i is. refl; lines_none = refl; lines_more = λ i x xs. refl }
