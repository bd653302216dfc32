use Rattle.load.specs.Environments.{DeclarationsIn}
use Rattle.load.specs.Reads.{cursor}
use Rattle.load.proofs.read_tables.read_declarations.Given as goal

abbrev pub invariant-loop : goal.invariant-loop
invariant-loop l = DeclarationsIn l.owner l.counter l.initial.environment l.environment (cursor l.initial.reader) (cursor l.reader)
