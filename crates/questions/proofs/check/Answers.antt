use Rattle.std.proofs.Common.{sym, ap, ◌∙◌, subst}
use Rattle.std.specs.List.{list_all}
use Rattle.hir.specs.Held.{held}
use Rattle.hir.specs.declared.environment.ReactiveScope.{ReactiveScope}
use Rattle.semantics.specs.Targets.{nowhere}
use Rattle.questions.specs.Answers.{Answers}
use Rattle.questions.specs.Findings.{passed, nothing}
use Rattle.questions.specs.Questions.{unrecorded, block_lines}
use Rattle.questions.specs.Tables.{tables_in}
use Rattle.questions.proofs.Decided.{table_faulty}
use Rattle.questions.proofs.HeldTables.{block_decodes, tables_held, check_answers}
use Rattle.questions.proofs.check.Goals as goal

pub block-requires : goal.block-requires
block-requires c = block_decodes c.deepest.result c.deepest.ensures c.args.arena.now c.args.root c.requires.rooted

pub returns-then-not-tables : goal.returns-then-not-tables
returns-then-not-tables c =
    let e = c.args.environment.now in
    table_faulty (held e c.args.arena.now c.args.root)
    (sym (tables_held e c.args.arena.now c.args.root) ∙ ap (λ B. tables_in B e) (sym c.of-bounds.ensures) ∙ sym c.tables.ensures ∙ c.if-not-tables.true)

pub returns : goal.returns
returns c =
    let e = c.args.environment.now in
    let a = c.args.arena.now in
    let r = c.args.root in
    subst (λ x. Answers (held e a r) x) (sym c.answer.ensures)
    (check_answers e a r c.deepest.result c.deepest.ensures c.block.new.self.found c.no_records.result c.requires.rooted c.requires.counted
    (ap (λ B. tables_in B e) (sym c.of-bounds.ensures) ∙ sym c.tables.ensures ∙ c.if-not-tables.false)
    (λ b is. c.block.ensures.by b is ∙ ap (λ B. passed (block_lines B b nowhere) nothing) c.of-bounds.ensures)
    (c.no_records.ensures ∙ ap (list_all (λ (s : ReactiveScope). unrecorded s.early)) c.deref.ensures.value))
