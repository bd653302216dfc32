-- What the questions are worth: a function that has a yes to each is well-formed, and no scope of it has a record. Assumes nothing.
use Rattle.std.specs.Prelude.{◌≡◌, []}
use Rattle.hir.specs.Tree.{Function}
use Rattle.questions.specs.Questions.{out_of_range, out_of_shape, without_target, scoped_twice}
use Rattle.calls.specs.Promise.{Loaded}

-- no statement and no table has a no
pub record AllYes (F : Function) : Type 0 where
  pub in_range : out_of_range F ≡ []
  pub in_shape : out_of_shape F ≡ []
  pub with_target : without_target F ≡ []
  pub scoped_once : scoped_twice F ≡ []

abbrev pub QuestionsSuffice : Type 0
QuestionsSuffice = (F : Function) → AllYes F → Loaded F
