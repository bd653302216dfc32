-- The answers of a list of operations, and what a function says of what slots stand for. Assumes nothing.
use Rattle.std.specs.Prelude.{◌≡◌, true, ◌&&◌, List, Some, None, Option}
use Rattle.hir.specs.declared.place.Place.{Place}
use Rattle.hir.specs.Tree.{Op}
use Rattle.questions.specs.declared.line.Bounds.{Bounds}
use Rattle.questions.specs.declared.line.Line.{Line}
use Rattle.questions.specs.declared.operations.Own.{Own}
use Rattle.questions.specs.Questions.{opt_place_in, ops_in, in_shape}

abbrev pub own_of : Bounds → List Op → Own
own_of B os = record { numbers = ops_in B os; shapes = in_shape os }

abbrev pub both_own : Own → Own → Own
both_own a b = record { numbers = a.numbers && b.numbers; shapes = a.shapes && b.shapes }

-- the slots stand for something
pub record Decodes {X : Type 0} (o : Option X) : Type 0 where
  pub what : X
  pub is : o ≡ Some what

-- r is f of what the slots stand for
pub record Same {X Y : Type 0} (o : Option X) (f : X → Y) (r : Y) : Type 0 where
  pub of : (x : X) → o ≡ Some x → r ≡ f x

-- the line of an instruction, by the answers of its operations
abbrev pub own_line : Bounds → Option Place → Own → Line
own_line B l o = record { numbers = opt_place_in B l && o.numbers; shapes = o.shapes; targets = true; owns = None }
