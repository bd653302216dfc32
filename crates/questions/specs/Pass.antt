-- What a function promises that passes over what the slots stand for. Assumes nothing.
use Rattle.std.specs.Prelude.{◌≡◌, List, Some, Option}
use Rattle.hir.specs.Decode.{ValueSlots, Slots}
use Rattle.hir.specs.Held.{slots, value_slots}
use Rattle.questions.specs.declared.line.Line.{Line}
use Rattle.questions.specs.declared.pass.Pass.{Pass}
use Rattle.questions.specs.Findings.{passed}

abbrev pub slots_in : Pass → Slots
slots_in p = slots p.arena.now

abbrev pub values_in : Pass → ValueSlots
values_in p = value_slots p.arena.now.inner

-- what a pass does not change
pub record Kept (before after : Pass) : Type 0 where
  pub arena : after.arena ≡ before.arena
  pub bounds : after.bounds ≡ before.bounds

-- the lines of what the slots stand for are passed over
pub record Passed {X : Type 0} (o : Option X) (lines : X → List Line) (before after : Pass) : Type 0 where
  pub kept : Kept before after
  pub by : (x : X) → o ≡ Some x → after.found ≡ passed (lines x) before.found
