use Rattle.std.proofs.Common.{vec_items, sym, ◌∙◌, arith}
use Rattle.std.proofs.lemmas.Bool.{eq-eqb, ne_eqb}
use Rattle.run.proofs.Turning.{held, again, again_round, regiven}
use Rattle.run.proofs.SwitchTurns.{select_rows, on_case_no, on_case_yes, on_case_threw}
use Rattle.run.proofs.machine.Machine.on_tested.Goals as goal

pub passed-requires : goal.passed-requires
passed-requires g c =
    let b = select_rows _ _ _ _ _ _ (vec_items c.args.self.now.memory.now.frames) c.requires.due.normal c.args.label c.args.depth c.args.selection c.requires.due.ready.1 in
    let n = c.args.self.now.tables.now.arena.cases.table.vec.ok.0 in
    let e = c.args.self.now.tables.now.arena.cases.table.within in
    let y = c.requires.some in
    record { some = y; fits = omega arith; next = omega arith }

pub choose-requires-clause-within : goal.choose-requires-clause-within
choose-requires-clause-within g c =
    let b = select_rows _ _ _ _ _ _ (vec_items c.args.self.now.memory.now.frames) c.requires.due.normal c.args.label c.args.depth c.args.selection c.requires.due.ready.1 in
    omega arith

pub choose-requires-clause-fits : goal.choose-requires-clause-fits
choose-requires-clause-fits g c =
    let b = select_rows _ _ _ _ _ _ (vec_items c.args.self.now.memory.now.frames) c.requires.due.normal c.args.label c.args.depth c.args.selection c.requires.due.ready.1 in
    let n = c.args.self.now.tables.now.arena.cases.table.vec.ok.0 in
    let e = c.args.self.now.tables.now.arena.cases.table.within in
    omega arith

pub returns-then-v-ne0-clause-turns : goal.returns-then-v-ne0-clause-turns
returns-then-v-ne0-clause-turns g c = λ w l.
    let r = c.ask-reply.ensures in
    let p = c.answered.ensures.yes _ c.in-Some.is in
    held (again_round _ _ (regiven _ p.1) c.choose.ensures)
    (on_case_yes _ _ _ _ _ _ (vec_items c.args.self.now.memory.now.frames) c.requires.due.normal c.args.label c.args.depth c.args.selection l c.args.case c.requires.some c.requires.here c.args.test c.look-asked.result _ c.requires.is c.look-asked.ensures _ r.moves (sym p.0 ∙ r.answers) (ne_eqb _ _ c.if-v-ne0.true))

pub returns-else-v-ne0-clause-turns : goal.returns-else-v-ne0-clause-turns
returns-else-v-ne0-clause-turns g c = λ w l.
    let r = c.ask-reply.ensures in
    let p = c.answered.ensures.yes _ c.in-Some.is in
    held (again _ (regiven _ p.1) (rw c.passed.ensures at c.push.ensures.holds))
    (on_case_no _ _ _ _ _ _ (vec_items c.args.self.now.memory.now.frames) c.requires.due.normal c.args.label c.args.depth c.args.selection l c.args.case c.requires.some c.requires.here c.args.test c.look-asked.result _ c.requires.is c.look-asked.ensures _ r.moves (sym p.0 ∙ r.answers) (eq-eqb _ _ c.if-v-ne0.false))

pub returns-in_default-clause-turns : goal.returns-in_default-clause-turns
returns-in_default-clause-turns g c = λ w l.
    let r = c.ask-reply.ensures in
    let p = c.answered.ensures.no c.in_default.is in
    held p.2 (on_case_threw _ _ _ _ _ _ (vec_items c.args.self.now.memory.now.frames) c.requires.due.normal c.args.label c.args.depth c.args.selection l c.args.case c.requires.some c.requires.here c.args.test c.look-asked.result _ c.requires.is c.look-asked.ensures _ r.moves (sym p.1 ∙ r.answers))
