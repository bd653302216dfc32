use Rattle.std.proofs.Common.{◌≤◌, vec_items, ⊎_elim, arith}
use Rattle.run.proofs.Dues.{turns_as}
use Rattle.run.proofs.Turning.{renamed, exited, leads_as}
use Rattle.run.proofs.EndTurns.{on_ends_label, on_ends_loop, on_ends_switch, on_ends_round, on_passed, room_of, takes_none}
use Rattle.run.proofs.machine.Machine.on_abrupt.Goals as goal

pub returns-in-EndsLabel-clause-turns : goal.returns-in-EndsLabel-clause-turns
returns-in-EndsLabel-clause-turns g c = λ w l. renamed c.in-EndsLabel.is (exited c.end_label-self.ensures (on_ends_label _ _ _ _ _ _ (vec_items c.args.self.now.memory.now.frames) c.in-EndsLabel.label (leads_as (vec_items c.args.self.now.memory.now.frames) c.in-EndsLabel.is l)))

pub returns-in-EndsLoop-clause-turns : goal.returns-in-EndsLoop-clause-turns
returns-in-EndsLoop-clause-turns g c = λ w l.
    let fs = vec_items c.args.self.now.memory.now.frames in
    let m = c.in-EndsLoop.label in
    ⊎_elim (λ e. renamed e (exited c.end_loop-self.ensures (on_ends_loop _ _ _ _ _ _ fs m (leads_as fs e l)))) (λ e. renamed e (exited c.end_loop-self.ensures (on_ends_switch _ _ _ _ _ _ fs m (leads_as fs e l)))) c.in-EndsLoop.is

pub returns-in-EndsRound-clause-turns : goal.returns-in-EndsRound-clause-turns
returns-in-EndsRound-clause-turns g c = λ w l. renamed c.in-EndsRound.is (exited c.end_round-self.ensures (on_ends_round _ _ _ _ _ _ (vec_items c.args.self.now.memory.now.frames) c.in-EndsRound.label (leads_as (vec_items c.args.self.now.memory.now.frames) c.in-EndsRound.is l)))

pub on_catches-requires : goal.on_catches-requires
on_catches-requires g c =
    let l = leads_as (vec_items c.args.self.now.memory.now.frames) c.in-Catches.is c.requires.ready.1 in
    let n = c.args.self.now.memory.now.frames.ok.0 in
    let r : _ ≤ 1000 = room_of (vec_items c.args.self.now.memory.now.frames) _ l in
    record { room = omega arith; ready = (_, l) }

pub returns-in-Catches-clause-turns : goal.returns-in-Catches-clause-turns
returns-in-Catches-clause-turns g c = turns_as g.H.Host c.args.self.now c.in-Catches.is c.on_catches.new.self c.on_catches.ensures.turns

pub returns-in_default-clause-turns : goal.returns-in_default-clause-turns
returns-in_default-clause-turns g c = λ w l.
    let s = c.in_default in
    on_passed _ _ _ _ _ _ (vec_items c.args.self.now.memory.now.frames) c.args.frame (takes_none c.args.frame s.not-EndsLabel s.not-EndsLoop s.not-EndsSwitch s.not-EndsRound s.not-Catches) c.requires.abrupt l
