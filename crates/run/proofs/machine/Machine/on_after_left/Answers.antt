use Rattle.std.proofs.Common.{vec_items, sym, ◌∙◌}
use Rattle.std.proofs.lemmas.Bool.{eq-eqb, ne_eqb}
use Rattle.run.proofs.Turning.{held, again, regiven}
use Rattle.run.proofs.StepTurns.{on_left_threw, on_left_yes, on_left_no}
use Rattle.run.proofs.machine.Machine.on_after_left.Goals as goal

pub returns-in_default-clause-turns : goal.returns-in_default-clause-turns
returns-in_default-clause-turns g c = λ w l.
    let r = c.ask_test-reply.ensures in
    let p = c.answered.ensures.no c.in_default.is in
    held p.2 (on_left_threw _ _ _ _ _ _ (vec_items c.args.self.now.memory.now.frames) c.requires.normal c.args.payload _ _ r.moves c.args.right c.args.depth (sym p.1 ∙ r.answers) l)

pub returns-then-v-ne0-clause-turns : goal.returns-then-v-ne0-clause-turns
returns-then-v-ne0-clause-turns g c = λ w l.
    let r = c.ask_test-reply.ensures in
    let p = c.answered.ensures.yes _ c.in-Some.is in
    held (again _ (regiven _ p.1) c.push.ensures.holds)
    (on_left_yes _ _ _ _ _ _ (vec_items c.args.self.now.memory.now.frames) c.requires.normal c.args.payload _ _ r.moves c.args.right c.args.depth (sym p.0 ∙ r.answers) (ne_eqb _ _ c.if-v-ne0.true) l)

pub returns-else-v-ne0-clause-turns : goal.returns-else-v-ne0-clause-turns
returns-else-v-ne0-clause-turns g c = λ w l.
    let r = c.ask_test-reply.ensures in
    let p = c.answered.ensures.yes _ c.in-Some.is in
    held p.1 (on_left_no _ _ _ _ _ _ (vec_items c.args.self.now.memory.now.frames) c.requires.normal c.args.payload _ _ r.moves c.args.right c.args.depth (sym p.0 ∙ r.answers) (eq-eqb _ _ c.if-v-ne0.false) l)
