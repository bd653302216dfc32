use Rattle.std.proofs.Common.{length}
use Rattle.format.specs.Words.{words}
use Rattle.load.specs.Environments.{ScopesMid}
use Rattle.load.specs.Reads.{cursor}
use Rattle.load.proofs.read_tables.read_scopes.Given as goal

abbrev pub invariant-items : goal.invariant-items
invariant-items l = ScopesMid l.initial.environment l.environment (cursor l.initial.reader) (cursor l.reader)

-- each item takes a word at least
abbrev pub decreases-items : goal.decreases-items
decreases-items l = length (words l.reader.rest.now)
