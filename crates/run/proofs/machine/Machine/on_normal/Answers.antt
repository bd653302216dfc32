use Rattle.std.proofs.Common.{vec_items, refl, ⊎_elim}
use Rattle.semantics.specs.Exec.{end_label, end_loop, end_round}
use Rattle.run.proofs.Dues.{ready_as, due_as, turns_as}
use Rattle.run.proofs.Turning.{exited}
use Rattle.run.proofs.EndTurns.{normal_stays, normal_not_threw, on_ends_label, on_ends_loop, on_ends_switch, on_ends_round, on_catches_passed}
use Rattle.run.proofs.machine.Machine.on_normal.Goals as goal

pub on_block-requires : goal.on_block-requires
on_block-requires g c = due_as g.H.Host c.args.self.now c.in-Block.is c.requires.normal c.requires.ready (λ n low. low)

pub returns-in-Block-clause-turns : goal.returns-in-Block-clause-turns
returns-in-Block-clause-turns g c = turns_as g.H.Host c.args.self.now c.in-Block.is c.on_block.new.self c.on_block.ensures.turns

pub on_statement-requires : goal.on_statement-requires
on_statement-requires g c = due_as g.H.Host c.args.self.now c.in-Statement.is c.requires.normal c.requires.ready (λ n low. low)

pub returns-in-Statement-clause-turns : goal.returns-in-Statement-clause-turns
returns-in-Statement-clause-turns g c = turns_as g.H.Host c.args.self.now c.in-Statement.is c.on_statement.new.self c.on_statement.ensures.turns

pub on_value-requires : goal.on_value-requires
on_value-requires g c = due_as g.H.Host c.args.self.now c.in-Value.is c.requires.normal c.requires.ready (λ n low. low)

pub returns-in-Value-clause-turns : goal.returns-in-Value-clause-turns
returns-in-Value-clause-turns g c = turns_as g.H.Host c.args.self.now c.in-Value.is c.on_value.new.self c.on_value.ensures.turns

pub on_assigns-requires : goal.on_assigns-requires
on_assigns-requires g c = record { normal = c.requires.normal; ready = ready_as g.H.Host c.args.self.now c.in-Assigns.is c.requires.ready }

pub returns-in-Assigns-clause-turns : goal.returns-in-Assigns-clause-turns
returns-in-Assigns-clause-turns g c = turns_as g.H.Host c.args.self.now c.in-Assigns.is c.on_assigns.new.self c.on_assigns.ensures.turns

pub on_instructions-requires : goal.on_instructions-requires
on_instructions-requires g c = due_as g.H.Host c.args.self.now c.in-Instructions.is c.requires.normal c.requires.ready (λ n low. low)

pub returns-in-Instructions-clause-turns : goal.returns-in-Instructions-clause-turns
returns-in-Instructions-clause-turns g c = turns_as g.H.Host c.args.self.now c.in-Instructions.is c.on_instructions.new.self c.on_instructions.ensures.turns

pub on_after_left-requires : goal.on_after_left-requires
on_after_left-requires g c = due_as g.H.Host c.args.self.now c.in-AfterLeft.is c.requires.normal c.requires.ready (λ n low. low)

pub returns-in-AfterLeft-clause-turns : goal.returns-in-AfterLeft-clause-turns
returns-in-AfterLeft-clause-turns g c = turns_as g.H.Host c.args.self.now c.in-AfterLeft.is c.on_after_left.new.self c.on_after_left.ensures.turns

pub on_after_test-requires : goal.on_after_test-requires
on_after_test-requires g c = due_as g.H.Host c.args.self.now c.in-AfterTest.is c.requires.normal c.requires.ready (λ n low. low)

pub returns-in-AfterTest-clause-turns : goal.returns-in-AfterTest-clause-turns
returns-in-AfterTest-clause-turns g c = turns_as g.H.Host c.args.self.now c.in-AfterTest.is c.on_after_test.new.self c.on_after_test.ensures.turns

pub on_leaves-requires : goal.on_leaves-requires
on_leaves-requires g c = record { normal = c.requires.normal; ready = ready_as g.H.Host c.args.self.now c.in-Leaves.is c.requires.ready }

pub returns-in-Leaves-clause-turns : goal.returns-in-Leaves-clause-turns
returns-in-Leaves-clause-turns g c = turns_as g.H.Host c.args.self.now c.in-Leaves.is c.on_leaves.new.self c.on_leaves.ensures.turns

pub on_starts-requires : goal.on_starts-requires
on_starts-requires g c = due_as g.H.Host c.args.self.now c.in-Starts.is c.requires.normal c.requires.ready (λ n low. low)

pub returns-in-Starts-clause-turns : goal.returns-in-Starts-clause-turns
returns-in-Starts-clause-turns g c = turns_as g.H.Host c.args.self.now c.in-Starts.is c.on_starts.new.self c.on_starts.ensures.turns

pub on_rounds-requires : goal.on_rounds-requires
on_rounds-requires g c = due_as g.H.Host c.args.self.now c.in-Rounds.is c.requires.normal c.requires.ready (λ n low. low)

pub returns-in-Rounds-clause-turns : goal.returns-in-Rounds-clause-turns
returns-in-Rounds-clause-turns g c = turns_as g.H.Host c.args.self.now c.in-Rounds.is c.on_rounds.new.self c.on_rounds.ensures.turns

pub on_tests-requires : goal.on_tests-requires
on_tests-requires g c = due_as g.H.Host c.args.self.now c.in-Tests.is c.requires.normal c.requires.ready (λ n low. low)

pub returns-in-Tests-clause-turns : goal.returns-in-Tests-clause-turns
returns-in-Tests-clause-turns g c = turns_as g.H.Host c.args.self.now c.in-Tests.is c.on_tests.new.self c.on_tests.ensures.turns

pub on_selects-requires : goal.on_selects-requires
on_selects-requires g c = due_as g.H.Host c.args.self.now c.in-Selects.is c.requires.normal c.requires.ready (λ n low. low)

pub returns-in-Selects-clause-turns : goal.returns-in-Selects-clause-turns
returns-in-Selects-clause-turns g c = turns_as g.H.Host c.args.self.now c.in-Selects.is c.on_selects.new.self c.on_selects.ensures.turns

pub on_cases-requires : goal.on_cases-requires
on_cases-requires g c = due_as g.H.Host c.args.self.now c.in-Cases.is c.requires.normal c.requires.ready (λ n low. low)

pub returns-in-Cases-clause-turns : goal.returns-in-Cases-clause-turns
returns-in-Cases-clause-turns g c = turns_as g.H.Host c.args.self.now c.in-Cases.is c.on_cases.new.self c.on_cases.ensures.turns

pub returns-in-EndsLabel-clause-turns : goal.returns-in-EndsLabel-clause-turns
returns-in-EndsLabel-clause-turns g c =
    let m = c.args.self.now in
    let fs = vec_items m.memory.now.frames in
    let n = c.requires.normal in
    ⊎_elim (λ p. turns_as g.H.Host m p.1 m (λ w l. exited (normal_stays (end_label p.0) refl n) (on_ends_label _ _ _ _ _ _ fs p.0 l)))
    (⊎_elim (λ p. turns_as g.H.Host m p.1 m (λ w l. exited (normal_stays (end_loop p.0) refl n) (on_ends_loop _ _ _ _ _ _ fs p.0 l)))
    (⊎_elim (λ p. turns_as g.H.Host m p.1 m (λ w l. exited (normal_stays (end_loop p.0) refl n) (on_ends_switch _ _ _ _ _ _ fs p.0 l)))
    (⊎_elim (λ p. turns_as g.H.Host m p.1 m (λ w l. exited (normal_stays (end_round p.0) refl n) (on_ends_round _ _ _ _ _ _ fs p.0 l)))
    (λ p. turns_as g.H.Host m p.3 m (λ w l. on_catches_passed _ _ _ _ _ _ fs p.0 p.1 p.2 (normal_not_threw n) l)))))
    c.in-EndsLabel.is
