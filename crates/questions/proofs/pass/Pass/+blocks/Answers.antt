use Rattle.std.proofs.Common.{◌-◌, ap, ◌∙◌, arith}
use Rattle.hir.specs.Decode.{Slots, opt_block_of, block_of}
use Rattle.questions.specs.Around.{around_of}
use Rattle.questions.specs.Findings.{passed}
use Rattle.questions.specs.Pass.{slots_in}
use Rattle.questions.specs.Questions.{stmt_lines}
use Rattle.questions.specs.Rows.{cases_in}
use Rattle.questions.proofs.BlockRow as K
use Rattle.questions.proofs.Passing.{kept_then, values_still, decodes_still, passed_by}
use Rattle.questions.proofs.Row as R
use Rattle.questions.proofs.StatementParts as S
use Rattle.questions.proofs.pass.Pass.+blocks.Goals as goal

pub block-statement-requires : goal.block-statement-requires
block-statement-requires t c =
    let deep = K.block_deep c.args.depth (slots_in c.args.self.now) c.args.block c.requires in
    (omega (arith, deep), R.row_next (K.one_stmt (c.args.depth - 1)) (K.some_stmts (c.args.depth - 1)) (K.stmt_lines_in (around_of c.args.around.now)) (K.block_lines_in (around_of c.args.around.now)) (K.block_rows (c.args.depth - 1) (around_of c.args.around.now)) _ c.loop-slot.invariant c.loop-slot-test.true)

pub block-loop-slot-preserved : goal.block-loop-slot-preserved
block-loop-slot-preserved t c = R.row_again (K.one_stmt (c.args.depth - 1)) (K.some_stmts (c.args.depth - 1)) (K.stmt_lines_in (around_of c.args.around.now)) (K.block_lines_in (around_of c.args.around.now)) (K.block_rows (c.args.depth - 1) (around_of c.args.around.now)) _ c.loop-slot.invariant c.loop-slot-test.true c.statement.ensures

pub block-returns : goal.block-returns
block-returns t c = K.block_whole c.args.depth (slots_in c.args.self.now) c.args.block _ _ _ (K.block_deep c.args.depth (slots_in c.args.self.now) c.args.block c.requires) (R.row_end (K.one_stmt (c.args.depth - 1)) (K.some_stmts (c.args.depth - 1)) (K.stmt_lines_in (around_of c.args.around.now)) (K.block_lines_in (around_of c.args.around.now)) (K.block_rows (c.args.depth - 1) (around_of c.args.around.now)) c.loop-slot.invariant c.loop-slot-test.false)

pub cases-loop-case-preserved : goal.cases-loop-case-preserved
cases-loop-case-preserved t c = R.row_again (K.one_case c.args.depth) (K.some_cases c.args.depth) (K.opt_block_lines_in (around_of c.args.around.now)) (K.cases_lines_in (around_of c.args.around.now)) (K.case_rows c.args.depth (around_of c.args.around.now)) _ c.loop-case.invariant c.loop-case-test.true c.optional.ensures

pub statement-returns-in-Instruction : goal.statement-returns-in-Instruction
statement-returns-in-Instruction t c =
    record {
      kept = c.top_instruction.ensures.kept;
      by = λ s e.
          let p = S.instr_slot (slots_in c.args.self.now) (block_of c.args.depth (slots_in c.args.self.now)) c.args.slot _ c.at.ensures s e c.in-Instruction.top c.in-Instruction.is in
          c.top_instruction.ensures.by p.0 p.1 ∙ ap (λ z. passed (stmt_lines c.args.self.now.bounds z (around_of c.args.around.now)) c.args.self.now.found) p.2;
    }

pub statement-returns-in-Terminal : goal.statement-returns-in-Terminal
statement-returns-in-Terminal t c =
    record {
      kept = c.terminal.ensures.kept;
      by = λ s e.
          let p = S.term_slot (slots_in c.args.self.now) (block_of c.args.depth (slots_in c.args.self.now)) c.args.slot _ c.at.ensures s e c.in-Terminal.shown c.in-Terminal.is in
          c.terminal.ensures.by p.0 p.1 ∙ ap (λ z. passed (stmt_lines c.args.self.now.bounds z (around_of c.args.around.now)) c.args.self.now.found) p.2;
    }

pub terminal-values_own-own-requires : goal.terminal-values_own-own-requires
terminal-values_own-own-requires t c = (S.term_view (slots_in c.args.self.now) (block_of c.args.depth (slots_in c.args.self.now)) c.args.shown.terminal c.view-parts.result c.requires.what c.view-parts.ensures c.requires.is).values

pub terminal-values_inside-requires : goal.terminal-values_inside-requires
terminal-values_inside-requires t c = values_still c.optional.ensures.kept (S.term_view (slots_in c.args.self.now) (block_of c.args.depth (slots_in c.args.self.now)) c.args.shown.terminal c.view-parts.result c.requires.what c.view-parts.ensures c.requires.is).values

pub terminal-optional-requires-2 : goal.terminal-optional-requires-2
terminal-optional-requires-2 t c = (
  omega arith,
  decodes_still (λ (a : Slots). opt_block_of (block_of c.args.depth a) c.view-parts.result.block) (kept_then c.optional.ensures.kept c.values_inside.ensures.kept)
      (S.term_view (slots_in c.args.self.now) (block_of c.args.depth (slots_in c.args.self.now)) c.args.shown.terminal c.view-parts.result c.requires.what c.view-parts.ensures c.requires.is).first,
)

pub terminal-optional-requires-3 : goal.terminal-optional-requires-3
terminal-optional-requires-3 t c = (
  omega arith,
  decodes_still (λ (a : Slots). opt_block_of (block_of c.args.depth a) c.view-parts.result.other) (kept_then (kept_then c.optional.ensures.kept c.values_inside.ensures.kept) c.optional-2.ensures.kept)
      (S.term_view (slots_in c.args.self.now) (block_of c.args.depth (slots_in c.args.self.now)) c.args.shown.terminal c.view-parts.result c.requires.what c.view-parts.ensures c.requires.is).other,
)

pub terminal-cases-requires : goal.terminal-cases-requires
terminal-cases-requires t c = (
  omega arith,
  decodes_still (λ (a : Slots). cases_in c.args.depth a c.view-parts.result.cases) (kept_then (kept_then (kept_then c.optional.ensures.kept c.values_inside.ensures.kept) c.optional-2.ensures.kept) c.optional-3.ensures.kept)
      (S.term_view (slots_in c.args.self.now) (block_of c.args.depth (slots_in c.args.self.now)) c.args.shown.terminal c.view-parts.result c.requires.what c.view-parts.ensures c.requires.is).cases,
)

pub terminal-returns : goal.terminal-returns
terminal-returns t c =
    passed_by c.requires (λ x e.
    S.term_reached c.args.depth c.view-parts.result x c.args.shown.label (around_of c.args.around.now) (around_of c.within-inner.result) c.values_own-own.result c.terminal_line-line.result
    (S.term_view (slots_in c.args.self.now) (block_of c.args.depth (slots_in c.args.self.now)) c.args.shown.terminal c.view-parts.result x c.view-parts.ensures e)
    c.values_own-own.ensures c.terminal_line-line.ensures c.note.ensures c.within-inner.ensures
    c.optional.ensures c.values_inside.ensures c.optional-2.ensures c.optional-3.ensures c.cases.ensures)
