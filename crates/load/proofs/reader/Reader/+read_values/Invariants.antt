use Rattle.std.proofs.Common.{◌+◌, ◌*◌}
use Rattle.load.specs.Reads.{cursor}
use Rattle.load.specs.Values.{InstrsIn}
use Rattle.load.proofs.reader.Reader.+read_values.Given as goal

-- a value is one less deep than the one around it; between two values there are at most four calls
abbrev pub decreases-read_value : goal.decreases-read_value
decreases-read_value l = l.depth * 8

abbrev pub decreases-read_instruction : goal.decreases-read_instruction
decreases-read_instruction l = l.depth * 8 + 1

abbrev pub decreases-read_instructions : goal.decreases-read_instructions
decreases-read_instructions l = l.depth * 8 + 2

abbrev pub decreases-read_logical : goal.decreases-read_logical
decreases-read_logical l = l.depth * 8 + 1

abbrev pub decreases-read_conditional : goal.decreases-read_conditional
decreases-read_conditional l = l.depth * 8 + 1

abbrev pub decreases-read_optional : goal.decreases-read_optional
decreases-read_optional l = l.depth * 8 + 1

abbrev pub decreases-read_sequence : goal.decreases-read_sequence
decreases-read_sequence l = l.depth * 8 + 3

abbrev pub decreases-read_case : goal.decreases-read_case
decreases-read_case l = l.depth * 8 + 4

abbrev pub invariant-read_instructions-loop : goal.invariant-read_instructions-loop
invariant-read_instructions-loop l = InstrsIn l.depth l.counter l.initial.arena l.arena (cursor l.initial.self) (cursor l.self)
