use Rattle.std.proofs.Common.{vec_items, sym, ◌∙◌}
use Rattle.std.proofs.lemmas.Bool.{eq-eqb, ne_eqb}
use Rattle.run.proofs.Turning.{held, exiting, again, again_round, regiven}
use Rattle.run.proofs.LoopTurns.{on_tests_threw, on_tests_no, tests_test_first, tests_block_first, tests_updating}
use Rattle.run.proofs.machine.Machine.on_tests.Goals as goal

pub returns-then-v-eq0-clause-turns : goal.returns-then-v-eq0-clause-turns
returns-then-v-eq0-clause-turns g c = λ w l.
    let r = c.ask_test-reply.ensures in
    let p = c.answered.ensures.yes _ c.in-Some.is in
    held (exiting _ (regiven _ p.1)) (on_tests_no _ _ _ _ _ _ (vec_items c.args.self.now.memory.now.frames) c.requires.normal c.args.label c.args.depth _ _ r.moves c.args.repeated (sym p.0 ∙ r.answers) (eq-eqb _ _ c.if-v-eq0.true) l)

pub returns-in_default-clause-turns : goal.returns-in_default-clause-turns
returns-in_default-clause-turns g c = λ w l.
    let r = c.ask_test-reply.ensures in
    let p = c.answered.ensures.no c.in_default.is in
    held p.2 (on_tests_threw _ _ _ _ _ _ (vec_items c.args.self.now.memory.now.frames) c.requires.normal c.args.label c.args.depth _ _ r.moves c.args.repeated (sym p.1 ∙ r.answers) l)

pub returns-in-TestFirst-clause-turns : goal.returns-in-TestFirst-clause-turns
returns-in-TestFirst-clause-turns g c = λ w l.
    let r = c.ask_test-reply.ensures in
    let p = c.answered.ensures.yes _ c.in-Some.is in
    held (again_round _ _ (regiven _ p.1) c.push_round.ensures) (tests_test_first _ _ _ _ _ _ (vec_items c.args.self.now.memory.now.frames) c.requires.normal c.args.label c.args.depth _ _ r.moves (sym p.0 ∙ r.answers) (ne_eqb _ _ c.if-v-eq0.false) c.args.repeated _ _ c.in-TestFirst.is l)

pub returns-in-BlockFirst-clause-turns : goal.returns-in-BlockFirst-clause-turns
returns-in-BlockFirst-clause-turns g c = λ w l.
    let r = c.ask_test-reply.ensures in
    let p = c.answered.ensures.yes _ c.in-Some.is in
    held (regiven _ p.1) (tests_block_first _ _ _ _ _ _ (vec_items c.args.self.now.memory.now.frames) c.requires.normal c.args.label c.args.depth _ _ r.moves (sym p.0 ∙ r.answers) (ne_eqb _ _ c.if-v-eq0.false) c.args.repeated _ _ c.in-BlockFirst.is l)

pub returns-in-Updating-clause-turns : goal.returns-in-Updating-clause-turns
returns-in-Updating-clause-turns g c = λ w l.
    let r = c.ask_test-reply.ensures in
    let p = c.answered.ensures.yes _ c.in-Some.is in
    held (again_round _ _ (again _ (regiven _ p.1) c.push_update.ensures.holds) c.push_round-in-Updating.ensures)
    (tests_updating _ _ _ _ _ _ (vec_items c.args.self.now.memory.now.frames) c.requires.normal c.args.label c.args.depth _ _ r.moves (sym p.0 ∙ r.answers) (ne_eqb _ _ c.if-v-eq0.false) c.args.repeated _ _ _ c.in-Updating.is l)
