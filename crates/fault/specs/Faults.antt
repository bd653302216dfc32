-- The number and the place of a run's faults. Assumes nothing.
use Rattle.std.specs.Prelude.{ℕ}
use Rattle.fault.specs.declared.RunFault.{RunFault}
use Rattle.fault.specs.declared.RunFault.TheVariants.{StoreTooShort, BudgetTooLarge}

-- the store's length; the budget
abbrev pub run_number : RunFault → ℕ
run_number StoreTooShort = 12
run_number BudgetTooLarge = 13

-- a call that is refused as a whole has no place in the function
abbrev pub run_place : RunFault → ℕ
run_place StoreTooShort = 0
run_place BudgetTooLarge = 0
