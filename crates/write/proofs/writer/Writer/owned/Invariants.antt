use Rattle.write.proofs.Left.{Left}
use Rattle.write.proofs.Owned.{owned_from}
use Rattle.write.proofs.writer.Writer.owned.Given as goal

abbrev pub invariant-loop-one : goal.invariant-loop-one
invariant-loop-one l = Left l.initial.self l.self (owned_from l.owner l.declared 0) (owned_from l.owner l.declared l.one-index)
