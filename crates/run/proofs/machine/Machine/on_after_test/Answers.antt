use Rattle.std.proofs.Common.{vec_items, sym, ◌∙◌}
use Rattle.std.proofs.lemmas.Bool.{eq-eqb, ne_eqb}
use Rattle.run.proofs.Turning.{held, again, regiven}
use Rattle.run.proofs.StepTurns.{on_test_threw, on_test_yes, on_test_no}
use Rattle.run.proofs.machine.Machine.on_after_test.Goals.{then-v-ne0, else-v-ne0}
use Rattle.run.proofs.machine.Machine.on_after_test.Goals as goal

pub returns-clause-turns : goal.returns-clause-turns
returns-clause-turns g c = λ w l.
    let r = c.ask_test-reply.ensures in
    let p = c.answered.ensures.yes _ c.in-Some.is in
    let h = again _ (regiven _ p.1) c.push.ensures.holds in
    elim c.if-v-ne0.branch [
      | then-v-ne0 b ↦ held (rw b.slot-is at h) (on_test_yes _ _ _ _ _ _ (vec_items c.args.self.now.memory.now.frames) c.requires.normal _ _ r.moves c.args.consequent c.args.alternate c.args.depth (sym p.0 ∙ r.answers) (ne_eqb _ _ b.if-v-ne0.true) l)
      | else-v-ne0 b ↦ held (rw b.slot-is at h) (on_test_no _ _ _ _ _ _ (vec_items c.args.self.now.memory.now.frames) c.requires.normal _ _ r.moves c.args.consequent c.args.alternate c.args.depth (sym p.0 ∙ r.answers) (eq-eqb _ _ b.if-v-ne0.false) l)
    ]

pub returns-in_default-clause-turns : goal.returns-in_default-clause-turns
returns-in_default-clause-turns g c = λ w l.
    let r = c.ask_test-reply.ensures in
    let p = c.answered.ensures.no c.in_default.is in
    held p.2 (on_test_threw _ _ _ _ _ _ (vec_items c.args.self.now.memory.now.frames) c.requires.normal _ _ r.moves c.args.consequent c.args.alternate c.args.depth (sym p.1 ∙ r.answers) l)
