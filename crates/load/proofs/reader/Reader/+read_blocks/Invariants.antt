use Rattle.std.proofs.Common.{◌+◌, ◌*◌}
use Rattle.load.specs.Blocks.{StmtsIn, CasesIn}
use Rattle.load.specs.Reads.{cursor}
use Rattle.load.proofs.reader.Reader.+read_blocks.Given as goal

-- a block is one less deep than the one around it; between two blocks there are at most eight calls
abbrev pub decreases-read_block : goal.decreases-read_block
decreases-read_block l = l.depth * 16 + 0

abbrev pub decreases-read_switch_case : goal.decreases-read_switch_case
decreases-read_switch_case l = l.depth * 16 + 2

abbrev pub decreases-read_cases : goal.decreases-read_cases
decreases-read_cases l = l.depth * 16 + 3

abbrev pub decreases-read_do_while : goal.decreases-read_do_while
decreases-read_do_while l = l.depth * 16 + 2

abbrev pub decreases-read_for : goal.decreases-read_for
decreases-read_for l = l.depth * 16 + 2

abbrev pub decreases-read_for_in : goal.decreases-read_for_in
decreases-read_for_in l = l.depth * 16 + 2

abbrev pub decreases-read_for_of : goal.decreases-read_for_of
decreases-read_for_of l = l.depth * 16 + 2

abbrev pub decreases-read_if : goal.decreases-read_if
decreases-read_if l = l.depth * 16 + 2

abbrev pub decreases-read_label : goal.decreases-read_label
decreases-read_label l = l.depth * 16 + 2

abbrev pub decreases-read_optional_block : goal.decreases-read_optional_block
decreases-read_optional_block l = l.depth * 16 + 1

abbrev pub decreases-read_statement : goal.decreases-read_statement
decreases-read_statement l = l.depth * 16 + 7

abbrev pub decreases-read_statements : goal.decreases-read_statements
decreases-read_statements l = l.depth * 16 + 8

abbrev pub decreases-read_switch : goal.decreases-read_switch
decreases-read_switch l = l.depth * 16 + 4

abbrev pub decreases-read_term : goal.decreases-read_term
decreases-read_term l = l.depth * 16 + 5

abbrev pub decreases-read_terminal : goal.decreases-read_terminal
decreases-read_terminal l = l.depth * 16 + 6

abbrev pub decreases-read_try : goal.decreases-read_try
decreases-read_try l = l.depth * 16 + 2

abbrev pub decreases-read_while : goal.decreases-read_while
decreases-read_while l = l.depth * 16 + 2

abbrev pub invariant-read_statements-loop : goal.invariant-read_statements-loop
invariant-read_statements-loop l = StmtsIn l.depth l.counter l.initial.arena l.arena (cursor l.initial.self) (cursor l.self)

abbrev pub invariant-read_cases-loop : goal.invariant-read_cases-loop
invariant-read_cases-loop l = CasesIn l.depth l.counter l.initial.arena l.arena (cursor l.initial.self) (cursor l.self)
