-- What the rest of the text makes of the number so far is what the whole text says.
use Rattle.std.proofs.Common.{◌≡◌, drop, Some}
use Rattle.screen.specs.Number.{number_from, number_of}
use Rattle.screen.proofs.number.number.Given as goal

abbrev pub invariant-loop-byte : goal.invariant-loop-byte
invariant-loop-byte l = number_of l.text ≡ number_from (Some l.value) (drop l.byte-index l.text)
