use Rattle.std.proofs.Common.{vec_items, Option, sym, ap, ◌∙◌}
use Rattle.std.proofs.lemmas.Bool.{eq-eqb, ne_eqb}
use Rattle.hir.specs.declared.range.Range.{Range}
use Rattle.hir.specs.declared.terminal.ReactiveTerminal.TheVariants as R
use Rattle.run.proofs.Rows.{none_of}
use Rattle.run.proofs.Turning.{held, again, regiven}
use Rattle.run.proofs.TerminalTurns.{on_break_by, on_break_implicit, on_continue_by, on_continue_implicit, on_return, on_throw, on_switch, on_do_while, on_while, on_for, on_for_of, on_for_in, on_if_yes, on_if_no, on_if_none, on_if_threw, on_label, on_try}
use Rattle.run.proofs.machine.Machine.on_terminal.Goals as goal

pub returns-in-Some-clause-turns : goal.returns-in-Some-clause-turns
returns-in-Some-clause-turns g c = λ w l. held c.jump.ensures (on_break_by _ _ _ _ _ _ (vec_items c.args.self.now.memory.now.frames) c.requires.due.normal c.args.slot c.args.depth c.args.statement c.requires.here l _ _ _ _ c.in-Break.is (sym c.in-Some.ensures))

pub returns-in_default-clause-turns : goal.returns-in_default-clause-turns
returns-in_default-clause-turns g c = λ w l. on_break_implicit _ _ _ _ _ _ (vec_items c.args.self.now.memory.now.frames) c.requires.due.normal c.args.slot c.args.depth c.args.statement c.requires.here l _ _ _ c.in-Break.is (λ o e. c.in_default.not-Some o (c.label_of.ensures ∙ e))

pub returns-in-Some-label_of-clause-turns : goal.returns-in-Some-label_of-clause-turns
returns-in-Some-label_of-clause-turns g c = λ w l. held c.jump-in-Some-label_of.ensures (on_continue_by _ _ _ _ _ _ (vec_items c.args.self.now.memory.now.frames) c.requires.due.normal c.args.slot c.args.depth c.args.statement c.requires.here l _ _ _ _ c.in-Continue.is (sym c.in-Some-label_of.ensures))

pub returns-in_default-label_of-clause-turns : goal.returns-in_default-label_of-clause-turns
returns-in_default-label_of-clause-turns g c = λ w l. on_continue_implicit _ _ _ _ _ _ (vec_items c.args.self.now.memory.now.frames) c.requires.due.normal c.args.slot c.args.depth c.args.statement c.requires.here l _ _ _ c.in-Continue.is (λ o e. c.in_default-label_of.not-Some o (c.label_of-in-Continue.ensures ∙ e))

pub returns-in-Return-clause-turns : goal.returns-in-Return-clause-turns
returns-in-Return-clause-turns g c = λ w l. on_return _ _ _ _ _ _ (vec_items c.args.self.now.memory.now.frames) c.requires.due.normal c.args.slot c.args.depth c.args.statement c.requires.here l _ _ _ c.in-Return.is c.look.ensures

pub returns-in-Throw-clause-turns : goal.returns-in-Throw-clause-turns
returns-in-Throw-clause-turns g c = λ w l. on_throw _ _ _ _ _ _ (vec_items c.args.self.now.memory.now.frames) c.requires.due.normal c.args.slot c.args.depth c.args.statement c.requires.here l _ _ _ c.in-Throw.is c.look-in-Throw.ensures

pub returns-in-Switch-clause-turns : goal.returns-in-Switch-clause-turns
returns-in-Switch-clause-turns g c = λ w l.
    held (again _ c.push.ensures.holds c.push-in-Switch.ensures.holds)
    (on_switch _ _ _ _ _ _ (vec_items c.args.self.now.memory.now.frames) c.requires.due.normal c.args.slot c.args.depth c.args.statement c.requires.here l c.mark_of-label.result c.mark_of-label.ensures _ _ _ _ c.in-Switch.is c.look-in-Switch.ensures)

pub returns-in-DoWhile-clause-turns : goal.returns-in-DoWhile-clause-turns
returns-in-DoWhile-clause-turns g c = λ w l. held c.push_loop.ensures.holds (on_do_while _ _ _ _ _ _ (vec_items c.args.self.now.memory.now.frames) c.requires.due.normal c.args.slot c.args.depth c.args.statement c.requires.here l c.mark_of-label.result c.mark_of-label.ensures _ _ _ c.in-DoWhile.is)

pub returns-in-While-clause-turns : goal.returns-in-While-clause-turns
returns-in-While-clause-turns g c = λ w l. held c.push_loop-in-While.ensures.holds (on_while _ _ _ _ _ _ (vec_items c.args.self.now.memory.now.frames) c.requires.due.normal c.args.slot c.args.depth c.args.statement c.requires.here l c.mark_of-label.result c.mark_of-label.ensures _ _ _ c.in-While.is)

pub returns-in-ForIn-clause-turns : goal.returns-in-ForIn-clause-turns
returns-in-ForIn-clause-turns g c = λ w l. held c.push_loop-in-ForIn.ensures.holds (on_for_in _ _ _ _ _ _ (vec_items c.args.self.now.memory.now.frames) c.requires.due.normal c.args.slot c.args.depth c.args.statement c.requires.here l c.mark_of-label.result c.mark_of-label.ensures _ _ _ _ c.in-ForIn.is)

pub returns-in-Label-clause-turns : goal.returns-in-Label-clause-turns
returns-in-Label-clause-turns g c = λ w l.
    held (again _ c.push-in-Label.ensures.holds c.push-in-Label-2.ensures.holds)
    (on_label _ _ _ _ _ _ (vec_items c.args.self.now.memory.now.frames) c.requires.due.normal c.args.slot c.args.depth c.args.statement c.requires.here l c.mark_of-label.result c.mark_of-label.ensures _ _ c.in-Label.is)

pub returns-in-For-clause-turns : goal.returns-in-For-clause-turns
returns-in-For-clause-turns g c = λ w l.
    held (again _ c.push_loop-in-For.ensures.holds c.push-in-For.ensures.holds)
    (on_for _ _ _ _ _ _ (vec_items c.args.self.now.memory.now.frames) c.requires.due.normal c.args.slot c.args.depth c.args.statement c.requires.here l c.mark_of-label.result c.mark_of-label.ensures _ _ _ _ _ c.in-For.is)

pub returns-in-ForOf-clause-turns : goal.returns-in-ForOf-clause-turns
returns-in-ForOf-clause-turns g c = λ w l.
    held (again _ c.push_loop-in-ForOf.ensures.holds c.push-in-ForOf.ensures.holds)
    (on_for_of _ _ _ _ _ _ (vec_items c.args.self.now.memory.now.frames) c.requires.due.normal c.args.slot c.args.depth c.args.statement c.requires.here l c.mark_of-label.result c.mark_of-label.ensures _ _ _ _ _ c.in-ForOf.is)

pub returns-in-Try-clause-turns : goal.returns-in-Try-clause-turns
returns-in-Try-clause-turns g c = λ w l.
    held (again _ (again _ c.push-in-Try.ensures.holds c.push-in-Try-2.ensures.holds) c.push-in-Try-3.ensures.holds)
    (on_try _ _ _ _ _ _ (vec_items c.args.self.now.memory.now.frames) c.requires.due.normal c.args.slot c.args.depth c.args.statement c.requires.here l c.mark_of-label.result c.mark_of-label.ensures _ _ _ _ c.in-Try.is)

pub returns-then-v-ne0-clause-turns : goal.returns-then-v-ne0-clause-turns
returns-then-v-ne0-clause-turns g c = λ w l.
    let r = c.ask_test-reply.ensures in
    let p = c.answered.ensures.yes _ c.in-Some-answered.is in
    held (again _ (again _ (regiven _ p.1) c.push-in-If.ensures.holds) c.push-then-v-ne0.ensures.holds)
    (on_if_yes _ _ _ _ _ _ (vec_items c.args.self.now.memory.now.frames) c.requires.due.normal c.args.slot c.args.depth c.args.statement c.requires.here l c.in-If.test c.in-If.consequent c.in-If.id c.look-given.result _ c.look-given.ensures _ r.moves
    c.mark_of-label.result c.mark_of-label.ensures c.in-If.alternate c.in-If.is (sym p.0 ∙ r.answers) (ne_eqb _ _ c.if-v-ne0.true))

pub returns-in-Some-alternate-clause-turns : goal.returns-in-Some-alternate-clause-turns
returns-in-Some-alternate-clause-turns g c = λ w l.
    let r = c.ask_test-reply.ensures in
    let p = c.answered.ensures.yes _ c.in-Some-answered.is in
    held (again _ (again _ (regiven _ p.1) c.push-in-If.ensures.holds) c.push-in-Some-alternate.ensures.holds)
    (on_if_no _ _ _ _ _ _ (vec_items c.args.self.now.memory.now.frames) c.requires.due.normal c.args.slot c.args.depth c.args.statement c.requires.here l c.in-If.test c.in-If.consequent c.in-If.id c.look-given.result _ c.look-given.ensures _ r.moves
    c.mark_of-label.result c.mark_of-label.ensures c.in-Some-alternate.block (c.in-If.is ∙ ap (λ (o : Option Range). R.If c.in-If.test c.in-If.consequent o c.in-If.id) c.in-Some-alternate.is) (sym p.0 ∙ r.answers) (eq-eqb _ _ c.if-v-ne0.false))

pub returns-in_default-alternate-clause-turns : goal.returns-in_default-alternate-clause-turns
returns-in_default-alternate-clause-turns g c = λ w l.
    let r = c.ask_test-reply.ensures in
    let p = c.answered.ensures.yes _ c.in-Some-answered.is in
    held (again _ (regiven _ p.1) c.push-in-If.ensures.holds)
    (on_if_none _ _ _ _ _ _ (vec_items c.args.self.now.memory.now.frames) c.requires.due.normal c.args.slot c.args.depth c.args.statement c.requires.here l c.in-If.test c.in-If.consequent c.in-If.id c.look-given.result _ c.look-given.ensures _ r.moves
    c.mark_of-label.result c.mark_of-label.ensures (c.in-If.is ∙ ap (λ (o : Option Range). R.If c.in-If.test c.in-If.consequent o c.in-If.id) (none_of c.in-If.alternate c.in_default-alternate.not-Some)) (sym p.0 ∙ r.answers) (eq-eqb _ _ c.if-v-ne0.false))

pub returns-in_default-answered-clause-turns : goal.returns-in_default-answered-clause-turns
returns-in_default-answered-clause-turns g c = λ w l.
    let r = c.ask_test-reply.ensures in
    let p = c.answered.ensures.no c.in_default-answered.is in
    held p.2 (on_if_threw _ _ _ _ _ _ (vec_items c.args.self.now.memory.now.frames) c.requires.due.normal c.args.slot c.args.depth c.args.statement c.requires.here l c.in-If.test c.in-If.consequent c.in-If.id c.look-given.result _ c.look-given.ensures _ r.moves c.in-If.alternate c.in-If.is (sym p.1 ∙ r.answers))
