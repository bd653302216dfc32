-- The numbers of the cases of enums, in their declared order. Assumes nothing.
use Rattle.std.specs.Prelude.{ℕ, Bool, true, false}
use Rattle.hir.specs.declared.place.Effect.{Effect}
use Rattle.hir.specs.declared.place.Effect.TheVariants.{Unknown, Freeze, Read, Capture, ConditionallyMutateIterator, ConditionallyMutate, Mutate, Store}
use Rattle.hir.specs.declared.value.LogicalOperator.{LogicalOperator}
use Rattle.hir.specs.declared.value.LogicalOperator.TheVariants.{Or, And, Coalesce}
use Rattle.hir.specs.declared.terminal.ReactiveTerminalTargetKind.{ReactiveTerminalTargetKind}
use Rattle.hir.specs.declared.terminal.ReactiveTerminalTargetKind.TheVariants.{Implicit, Labeled, Unlabeled}

abbrev pub flag_number : Bool → ℕ
flag_number false = 0
flag_number true = 1

abbrev pub effect_number : Effect → ℕ
effect_number Unknown = 0
effect_number Freeze = 1
effect_number Read = 2
effect_number Capture = 3
effect_number ConditionallyMutateIterator = 4
effect_number ConditionallyMutate = 5
effect_number Mutate = 6
effect_number Store = 7

abbrev pub operator_number : LogicalOperator → ℕ
operator_number Or = 0
operator_number And = 1
operator_number Coalesce = 2

abbrev pub target_number : ReactiveTerminalTargetKind → ℕ
target_number Implicit = 0
target_number Labeled = 1
target_number Unlabeled = 2
