-- The rows of a block's statements and of a switch's cases, and a block at some depth as its row.
use Rattle.std.proofs.Common.{◌≡◌, ℕ, zero, suc, ◌-◌, ◌≢◌, List, Option, sym, refl, ap, ◌∙◌, arith}
use Rattle.std.proofs.lemmas.Option.{none-some}
use Rattle.hir.specs.declared.range.Range.{Range}
use Rattle.hir.specs.declared.terminal.ReactiveSwitchCase.{ReactiveSwitchCase}
use Rattle.hir.specs.Decode.{Slots, slot_of, body_of, opt_block_of, cases_of, block_of}
use Rattle.hir.specs.Tree.{Stmt, Cases, OptBlock, Block, nil, cons, knil, kcons}
use Rattle.semantics.specs.Targets.{Around}
use Rattle.questions.specs.declared.line.Bounds.{Bounds}
use Rattle.questions.specs.declared.line.Line.{Line}
use Rattle.questions.specs.declared.pass.Pass.{Pass}
use Rattle.questions.specs.Own.{Decodes}
use Rattle.questions.specs.Pass.{Passed}
use Rattle.questions.specs.Questions.{stmt_lines, block_lines, opt_block_lines, cases_lines}
use Rattle.questions.specs.Rows.{body_in}
use Rattle.questions.proofs.Row.{Rows}

abbrev pub one_stmt : ℕ → Slots → ℕ → Option Stmt
one_stmt d a k = slot_of a (block_of d a) k

abbrev pub some_stmts : ℕ → Slots → List ℕ → Option Block
some_stmts d a ks = body_of (slot_of a (block_of d a)) ks

abbrev pub stmt_lines_in : Around → Bounds → Stmt → List Line
stmt_lines_in s B x = stmt_lines B x s

abbrev pub block_lines_in : Around → Bounds → Block → List Line
block_lines_in s B b = block_lines B b s

pub block_rows : (d : ℕ) (s : Around) (a : Slots) (B : Bounds) → Rows (one_stmt d a) (some_stmts d a) (stmt_lines_in s B) (block_lines_in s B)
block_rows d s a B = record { none = nil; join = λ k x b. cons x b; many_none = refl; many_more = λ k ks. refl; lines_none = refl; lines_more = λ k x b. refl }

abbrev pub one_case : ℕ → Slots → ReactiveSwitchCase → Option OptBlock
one_case d a c = opt_block_of (block_of d a) c.block

abbrev pub some_cases : ℕ → Slots → List ReactiveSwitchCase → Option Cases
some_cases d a cs = cases_of (block_of d a) cs

abbrev pub opt_block_lines_in : Around → Bounds → OptBlock → List Line
opt_block_lines_in s B b = opt_block_lines B b s

abbrev pub cases_lines_in : Around → Bounds → Cases → List Line
cases_lines_in s B cs = cases_lines B cs s

pub case_rows : (d : ℕ) (s : Around) (a : Slots) (B : Bounds) → Rows (one_case d a) (some_cases d a) (opt_block_lines_in s B) (cases_lines_in s B)
case_rows d s a B = record { none = knil; join = λ c b cs. kcons c.test b cs; many_none = refl; many_more = λ c cs. refl; lines_none = refl; lines_more = λ c b cs. refl }

-- ---- a block is its row, one level down

pub block_deep : (d : ℕ) (a : Slots) (r : Range) → Decodes (block_of d a r) → d ≢ 0
block_deep zero a r all = absurd (none-some _ all.is)
block_deep (suc d) a r all = omega arith

block_opens : (d : ℕ) (a : Slots) (r : Range) → d ≢ 0 → block_of d a r ≡ body_in (d - 1) a r
block_opens zero a r ne = absurd (ne refl)
block_opens (suc d) a r ne = let same : d ≡ suc d - 1 = omega arith in ap (λ n. body_in n a r) same

pub block_whole : (d : ℕ) (a : Slots) (r : Range) (lines : Block → List Line) (p q : Pass) → d ≢ 0 → Passed (body_in (d - 1) a r) lines p q → Passed (block_of d a r) lines p q
block_whole d a r lines p q ne h = record { kept = h.kept; by = λ x e. h.by x (sym (block_opens d a r ne) ∙ e) }
