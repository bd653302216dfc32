use Rattle.std.proofs.Common.{vec_items}
use Rattle.write.proofs.Left.{Left}
use Rattle.write.proofs.Owned.{scopes_left}
use Rattle.write.proofs.writer.Writer.scopes.Given as goal

abbrev pub invariant-loop-number : goal.invariant-loop-number
invariant-loop-number l = Left l.initial.self l.self (scopes_left l.scopes (vec_items l.declared.vec) 0) (scopes_left l.scopes (vec_items l.declared.vec) l.number)
