-- What a statement's slot stands for, and a terminal's lines by its parts.
use Rattle.std.proofs.Common.{◌≡◌, ℕ, ◌&&◌, ◌∷◌, ◌++◌, Some, None, Option, sym, ap, ◌∙◌, subst, ap₂, append_assoc}
use Rattle.std.proofs.Math.Bool.{and_assoc}
use Rattle.std.proofs.lemmas.Option.{same_Some}
use Rattle.hir.specs.declared.range.Range.{Range}
use Rattle.hir.specs.declared.statement.ReactiveStatement.{ReactiveStatement}
use Rattle.hir.specs.declared.statement.ReactiveStatement.TheVariants.{Instruction, Terminal}
use Rattle.hir.specs.declared.terminal.ReactiveLabel.{ReactiveLabel}
use Rattle.hir.specs.declared.terminal.ReactiveTerminal.{ReactiveTerminal}
use Rattle.hir.specs.declared.terminal.ReactiveTerminalStatement.{ReactiveTerminalStatement}
use Rattle.hir.specs.declared.value.ReactiveInstruction.{ReactiveInstruction}
use Rattle.hir.specs.Options.{bind, nth}
use Rattle.hir.specs.Decode.{Slots, top_value, instr_of, term_of, stmt_of, slot_of, opt_block_of, block_of}
use Rattle.hir.specs.Tree.{Instr, Stmt, instruction, terminal, Term, OptBlock, Block}
use Rattle.semantics.specs.Targets.{Around, mark, mark_inside, labelled}
use Rattle.questions.specs.declared.line.Bounds.{Bounds}
use Rattle.questions.specs.declared.line.Findings.{Findings}
use Rattle.questions.specs.declared.line.Line.{Line}
use Rattle.questions.specs.declared.operations.Own.{Own}
use Rattle.questions.specs.declared.parts.Parts.{Parts}
use Rattle.questions.specs.declared.pass.Pass.{Pass}
use Rattle.questions.specs.Around.{inside_of, opt_jump_aims}
use Rattle.questions.specs.Findings.{step}
use Rattle.questions.specs.Own.{own_of}
use Rattle.questions.specs.Parts.{parts_of, values_ops, values_lines, row_cases, parts_in, parts_line, OwnValues, PassedValues}
use Rattle.questions.specs.Pass.{slots_in, values_in, Passed}
use Rattle.questions.specs.Questions.{label_in, term_in, ops_in, in_shape, term_ops, term_line, term_lines, opt_block_lines, cases_lines}
use Rattle.questions.specs.Rows.{optional_at, cases_at, cases_in, labelled_lines}
use Rattle.questions.proofs.Passing.{Reached, begun, then_noted, then_passed, then_values, as_lines}
use Rattle.questions.proofs.Slots.{bound}
use Rattle.questions.proofs.TermParts.{TermParts, term_parts}

module _ (a : Slots) (block : Range → Option Block) (k : ℕ) (x : ReactiveStatement) (at : nth a.statements k ≡ Some x) (s : Stmt) (e : slot_of a block k ≡ Some s) where
  stmt_at : (y : ReactiveStatement) → x ≡ y → stmt_of a (top_value a.inner) block y ≡ Some s
  stmt_at y is = ap (stmt_of a (top_value a.inner) block) (sym is) ∙ sym (ap (λ o. bind o (stmt_of a (top_value a.inner) block)) at) ∙ e

  pub instr_slot : (i : ReactiveInstruction) → x ≡ Instruction i → (y : Instr) × (instr_of (top_value a.inner) i ≡ Some y) × (instruction y ≡ s)
  instr_slot i is = let b = bound (instr_of (top_value a.inner) i) _ s (stmt_at (Instruction i) is) in (b.0, b.1, same_Some _ s b.2)

  pub term_slot : (t : ReactiveTerminalStatement) → x ≡ Terminal t → (y : Term) × (term_of a (top_value a.inner) block t.terminal ≡ Some y) × (terminal y t.label ≡ s)
  term_slot t is = let b = bound (term_of a (top_value a.inner) block t.terminal) _ s (stmt_at (Terminal t) is) in (b.0, b.1, same_Some _ s b.2)

-- ---- the terminals

pub term_view : (a : Slots) (block : Range → Option Block) (t : ReactiveTerminal) (p : Parts) (x : Term) → p ≡ parts_of t → term_of a (top_value a.inner) block t ≡ Some x → TermParts a block p x
term_view a block t p x is e = subst (λ q. TermParts a block q x) (sym is) (term_parts a block t x e)

-- a terminal's answers are those of its parts
line_parts : (a : Slots) (block : Range → Option Block) (p : Parts) (x : Term) (B : Bounds) (m : Option ReactiveLabel) (s : Around) (t : TermParts a block p x) → parts_line B p m s (row_cases a p) (own_of B (values_ops t.values)) ≡ term_line B x m s
line_parts a block p x B m s t =
    let n : (label_in B m && parts_in B p (row_cases a p)) && ops_in B (values_ops t.values) ≡ label_in B m && (term_in B x && ops_in B (term_ops x)) =
    and_assoc (label_in B m) (parts_in B p (row_cases a p)) (ops_in B (values_ops t.values)) ∙ ap₂ (λ u os. label_in B m && (u && ops_in B os)) (sym (t.numbers B)) (sym t.ops) in
    ap₂ (λ u w. record { numbers = u; shapes = w; targets = opt_jump_aims p.jump s; owns = None }) n (ap in_shape (sym t.ops))
    ∙ ap (λ w. record { numbers = label_in B m && (term_in B x && ops_in B (term_ops x)); shapes = in_shape (term_ops x); targets = w; owns = None }) (sym (t.aims s))

pub term_reached : (d : ℕ) (parts : Parts) (x : Term) (m : Option ReactiveLabel) (s i : Around) (o : Own) (l : Line) {p : Pass} {f : Findings} {q r t u v : Pass}
    → TermParts (slots_in p) (block_of d (slots_in p)) parts x → OwnValues (values_in p) parts p.bounds o → l ≡ parts_line p.bounds parts m s (row_cases (slots_in p) parts) o → f ≡ step l p.found → i ≡ inside_of parts.inside (mark m) s
    → Passed (optional_at d (record p { found = f }) parts.leading) (λ b. opt_block_lines p.bounds b i) (record p { found = f }) q
    → PassedValues parts q r
    → Passed (optional_at d r parts.block) (λ b. opt_block_lines r.bounds b i) r t
    → Passed (optional_at d t parts.other) (λ b. opt_block_lines t.bounds b i) t u
    → Passed (cases_at d u parts.cases) (λ b. cases_lines u.bounds b i) u v
    → Reached (labelled_lines p.bounds m s x) p v
term_reached d parts x m s i o l {p} {f} {q} {r} {t} {u} {v} T own eline enote ei led valued entered handled cased =
    let B = p.bounds in
    let a = slots_in p in
    let L = opt_block_lines B T.leading.what i in
    let V = values_lines B T.values in
    let E = opt_block_lines B T.first.what i in
    let H = opt_block_lines B T.other.what i in
    let C = cases_lines B T.cases.what i in
    let line_is : l ≡ term_line B x m s = eline ∙ ap (parts_line B parts m s (row_cases a parts)) (own.of T.values) ∙ line_parts a (block_of d a) parts x B m s T in
    let inner : L ++ (V ++ (E ++ (H ++ C))) ≡ term_lines B x (mark m) (labelled (mark_inside x m) s) =
    ap (λ w. opt_block_lines B T.leading.what w ++ (V ++ (opt_block_lines B T.first.what w ++ (opt_block_lines B T.other.what w ++ cases_lines B T.cases.what w)))) ei ∙ sym (T.lines B m s) in
    let flat : (((L ++ V) ++ E) ++ H) ++ C ≡ L ++ (V ++ (E ++ (H ++ C))) = simp append_assoc in
    let at = λ (o : Option Range) (a : Slots). opt_block_of (block_of d a) o in
    let lines = λ (B : Bounds) (b : OptBlock). opt_block_lines B b i in
    let noted = then_noted l begun enote in
    let first = then_passed (at parts.leading) lines noted led T.leading.what T.leading.is in
    let second = then_values first valued T.values in
    let third = then_passed (at parts.block) lines second entered T.first.what T.first.is in
    let fourth = then_passed (at parts.other) lines third handled T.other.what T.other.is in
    as_lines (then_passed (λ (a : Slots). cases_in d a parts.cases) (λ (B : Bounds) b. cases_lines B b i) fourth cased T.cases.what T.cases.is)
    (ap₂ ◌∷◌ line_is (flat ∙ inner))
