use Rattle.std.proofs.Common.{vec_items, arith}
use Rattle.run.proofs.Turning.{held, again}
use Rattle.run.proofs.BlockTurns.{statement_slot, on_instruction, on_pruned}
use Rattle.run.proofs.machine.Machine.on_statement.Goals as goal

pub at-requires : goal.at-requires
at-requires g c =
    let b = statement_slot _ _ _ _ _ _ (vec_items c.args.self.now.memory.now.frames) c.requires.normal c.args.slot c.args.depth c.requires.ready.1 in
    let n = c.args.self.now.tables.now.arena.statements.vec.ok.0 in
    omega arith

pub returns-in-Instruction-clause-turns : goal.returns-in-Instruction-clause-turns
returns-in-Instruction-clause-turns g c = λ w l.
    held (again _ c.push.ensures.holds c.push-in-Instruction.ensures.holds)
    (on_instruction _ _ _ _ _ _ (vec_items c.args.self.now.memory.now.frames) c.requires.normal c.args.slot c.args.depth c.in-Instruction.i c.in-Instruction.ensures l)

pub returns-in-PrunedScope-clause-turns : goal.returns-in-PrunedScope-clause-turns
returns-in-PrunedScope-clause-turns g c = λ w l.
    held c.push-in-PrunedScope.ensures.holds
    (on_pruned _ _ _ _ _ _ (vec_items c.args.self.now.memory.now.frames) c.requires.normal c.args.slot c.args.depth c.in-PrunedScope.b c.in-PrunedScope.ensures l)
