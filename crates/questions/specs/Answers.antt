-- What the check answers: yes to all four questions, or the first with a no and a place that has that fault. Assumes nothing.
use Rattle.std.specs.Prelude.{◌≡◌, ℕ, Bool, true, cond, [], Some, None, Ok, Err, Option, Result}
use Rattle.format.specs.declared.fault.CheckFault.{CheckFault}
use Rattle.format.specs.declared.fault.CheckFault.TheVariants.{Numbers, Shapes, Targets, Scopes}
use Rattle.hir.specs.Tree.{Function}
use Rattle.questions.specs.declared.line.Findings.{Findings}
use Rattle.questions.specs.Questions.{among, out_of_range, out_of_shape, without_target, scoped_twice}

-- yes to all four
pub record Sound (F : Function) : Type 0 where
  pub numbers : out_of_range F ≡ []
  pub shapes : out_of_shape F ≡ []
  pub targets : without_target F ≡ []
  pub scopes : scoped_twice F ≡ []

abbrev pub Faulty : Function → CheckFault → Type 0
Faulty F (Numbers n) = among n (out_of_range F) ≡ true
Faulty F (Shapes n) = (out_of_range F ≡ []) × (among n (out_of_shape F) ≡ true)
Faulty F (Targets n) = (out_of_range F ≡ []) × (out_of_shape F ≡ []) × (among n (without_target F) ≡ true)
Faulty F (Scopes n) = (out_of_range F ≡ []) × (out_of_shape F ≡ []) × (without_target F ≡ []) × (among n (scoped_twice F) ≡ true)

abbrev pub Answers : Function → Result (Unit {0}) CheckFault → Type 0
Answers F (Ok u) = Sound F
Answers F (Err e) = Faulty F e

-- ---- by what the pass found

abbrev pub unless : Option ℕ → (ℕ → CheckFault) → Result (Unit {0}) CheckFault → Result (Unit {0}) CheckFault
unless None fault r = r
unless (Some n) fault r = Err (fault n)

abbrev pub answer_of : Findings → Bool → Result (Unit {0}) CheckFault
answer_of f recordless =
    unless f.numbers Numbers (unless f.shapes Shapes (unless f.targets Targets (cond recordless (unless f.scopes Scopes (Ok tt)) (Err (Scopes 0)))))
