-- Tables that have grown: each list has become longer at its end. Assumes nothing.
use Rattle.std.specs.Prelude.{◌≡◌, List, ◌++◌}
use Rattle.hir.specs.Decode.{ValueSlots, Slots}

pub record Grows {X : Type 0} (xs ys : List X) : Type 0 where
  pub more : List X
  pub is : ys ≡ xs ++ more

pub record ValuesGrow (a b : ValueSlots) : Type 0 where
  pub values : Grows a.values b.values
  pub instructions : Grows a.instructions b.instructions
  pub places : Grows a.places b.places

pub record SlotsGrow (a b : Slots) : Type 0 where
  pub inner : ValuesGrow a.inner b.inner
  pub statements : Grows a.statements b.statements
  pub entries : Grows a.entries b.entries
  pub cases : Grows a.cases b.cases
