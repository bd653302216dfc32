use Rattle.std.proofs.Common.{None, vec_items, arith}
use Rattle.run.proofs.Rows.{behind_is, none_of}
use Rattle.run.proofs.Turning.{held, again}
use Rattle.run.proofs.SwitchTurns.{cases_row, on_cases_end, on_cases_none, on_cases_block}
use Rattle.run.proofs.machine.Machine.on_cases.Goals as goal

pub returns-then-rest-eq0-clause-turns : goal.returns-then-rest-eq0-clause-turns
returns-then-rest-eq0-clause-turns g c = λ w l. on_cases_end _ _ _ _ _ _ (vec_items c.args.self.now.memory.now.frames) c.requires.normal None c.args.depth c.args.rest c.if-rest-eq0.true l

pub at-case-requires : goal.at-case-requires
at-case-requires g c =
    let b = cases_row _ _ _ _ _ _ (vec_items c.args.self.now.memory.now.frames) c.requires.normal None c.args.depth c.args.rest c.requires.ready.1 in
    let n = c.args.self.now.tables.now.arena.cases.table.vec.ok.0 in
    let z = c.if-rest-eq0.false in
    omega arith

pub behind-rest-requires-clause-fits : goal.behind-rest-requires-clause-fits
behind-rest-requires-clause-fits g c =
    let b = cases_row _ _ _ _ _ _ (vec_items c.args.self.now.memory.now.frames) c.requires.normal None c.args.depth c.args.rest c.requires.ready.1 in
    let n = c.args.self.now.tables.now.arena.cases.table.vec.ok.0 in
    let e = c.args.self.now.tables.now.arena.cases.table.within in
    omega arith

pub returns-in-Some-clause-turns : goal.returns-in-Some-clause-turns
returns-in-Some-clause-turns g c = λ w l.
    let z = c.if-rest-eq0.false in
    held (again _ (rw (behind_is _ _ _ c.behind-rest.ensures.start c.behind-rest.ensures.count) at c.push.ensures.holds) c.push-in-Some.ensures.holds)
    (on_cases_block _ _ _ _ _ _ (vec_items c.args.self.now.memory.now.frames) c.requires.normal None c.args.depth c.args.rest c.at-case.result _ (omega arith) c.at-case.ensures c.in-Some.is l)

pub returns-in_default-clause-turns : goal.returns-in_default-clause-turns
returns-in_default-clause-turns g c = λ w l.
    let z = c.if-rest-eq0.false in
    held (rw (behind_is _ _ _ c.behind-rest.ensures.start c.behind-rest.ensures.count) at c.push.ensures.holds)
    (on_cases_none _ _ _ _ _ _ (vec_items c.args.self.now.memory.now.frames) c.requires.normal None c.args.depth c.args.rest c.at-case.result (omega arith) c.at-case.ensures (none_of _ c.in_default.not-Some) l)
