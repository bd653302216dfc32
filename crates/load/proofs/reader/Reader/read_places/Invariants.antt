use Rattle.load.specs.Reads.{cursor}
use Rattle.load.specs.Values.{PlacesIn}
use Rattle.load.proofs.reader.Reader.read_places.Given as goal

abbrev pub invariant-loop : goal.invariant-loop
invariant-loop l = PlacesIn l.counter l.initial.arena l.arena (cursor l.initial.self) (cursor l.self)
