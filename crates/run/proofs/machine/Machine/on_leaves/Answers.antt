use Rattle.std.proofs.Common.{vec_items, sym, ◌∙◌}
use Rattle.std.proofs.lemmas.Bool.{eq-eqb, ne_eqb}
use Rattle.run.proofs.Rows.{none_of}
use Rattle.run.proofs.BlockTurns.{leaves_none, leaves_empty, leaves_return}
use Rattle.run.proofs.machine.Machine.on_leaves.Goals as goal

pub returns-then-value-ne1-clause-turns : goal.returns-then-value-ne1-clause-turns
returns-then-value-ne1-clause-turns g c = λ w l.
    leaves_return _ _ _ _ _ _ (vec_items c.args.self.now.memory.now.frames) c.requires.normal c.args.recorded c.in-Some.place c.look-value.result c.in-Some.is c.look-value.ensures (ne_eqb _ _ c.if-value-ne1.true) l

pub returns-else-value-ne1-clause-turns : goal.returns-else-value-ne1-clause-turns
returns-else-value-ne1-clause-turns g c = λ w l.
    leaves_empty _ _ _ _ _ _ (vec_items c.args.self.now.memory.now.frames) c.requires.normal c.args.recorded c.in-Some.place c.in-Some.is (eq-eqb _ _ (sym c.look-value.ensures ∙ c.if-value-ne1.false)) l

pub returns-in_default-clause-turns : goal.returns-in_default-clause-turns
returns-in_default-clause-turns g c = λ w l. leaves_none _ _ _ _ _ _ (vec_items c.args.self.now.memory.now.frames) c.requires.normal c.args.recorded (none_of c.args.recorded c.in_default.not-Some) l
