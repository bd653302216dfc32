-- No Scope block stands in a value: what is found inside one marks no scope. Assumes nothing.
use Rattle.std.proofs.Common.{◌≡◌, List, ◌++◌, refl, ap, ◌∙◌}
use Rattle.hir.specs.Tree.{Val, operation, logical, conditional, sequence, optional, OptVal, no_val, some_val, Instr, instr, Instrs, inil, icons}
use Rattle.questions.specs.declared.line.Bounds.{Bounds}
use Rattle.questions.specs.declared.line.Findings.{Findings}
use Rattle.questions.specs.declared.line.Line.{Line}
use Rattle.questions.specs.Findings.{passed}
use Rattle.questions.specs.Questions.{val_lines, instr_lines, instrs_lines, opt_val_lines}
use Rattle.questions.proofs.Passing.{passed_append}

both : (xs ys : List Line) (f : Findings) → (passed xs f).seen ≡ f.seen → (passed ys (passed xs f)).seen ≡ (passed xs f).seen → (passed (xs ++ ys) f).seen ≡ f.seen
both xs ys f p q = ap (λ (g : Findings). g.seen) (passed_append xs ys f) ∙ q ∙ p

mutual
  pub val_unmarking : (B : Bounds) (v : Val) (f : Findings) → (passed (val_lines B v) f).seen ≡ f.seen
  val_unmarking B (operation o) f = refl
  val_unmarking B (logical o x y) f = both (val_lines B x) (val_lines B y) f (val_unmarking B x f) (val_unmarking B y _)
  val_unmarking B (conditional w x y) f =
      both (val_lines B w) (val_lines B x ++ val_lines B y) f (val_unmarking B w f) (both (val_lines B x) (val_lines B y) _ (val_unmarking B x _) (val_unmarking B y _))
  val_unmarking B (sequence is i x) f = both (instrs_lines B is) (val_lines B x) f (instrs_unmarking B is f) (val_unmarking B x _)
  val_unmarking B (optional x o) f = val_unmarking B x f

  pub instr_unmarking : (B : Bounds) (i : Instr) (f : Findings) → (passed (instr_lines B i) f).seen ≡ f.seen
  instr_unmarking B (instr i l v n) f = val_unmarking B v _

  pub instrs_unmarking : (B : Bounds) (is : Instrs) (f : Findings) → (passed (instrs_lines B is) f).seen ≡ f.seen
  instrs_unmarking B inil f = refl
  instrs_unmarking B (icons i is) f = both (instr_lines B i) (instrs_lines B is) f (instr_unmarking B i f) (instrs_unmarking B is _)

pub opt_val_unmarking : (B : Bounds) (v : OptVal) (f : Findings) → (passed (opt_val_lines B v) f).seen ≡ f.seen
opt_val_unmarking B no_val f = refl
opt_val_unmarking B (some_val v) f = val_unmarking B v f
