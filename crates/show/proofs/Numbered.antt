-- A refusal's number is that of the first question that has a no.
use Rattle.std.proofs.Common.{◌≡◌, ℕ, List, [], ◌∷◌, ◌++◌, Some, decimal, ap, ◌∙◌, append-nil, arith}
use Rattle.hir.specs.Tree.{Function}
use Rattle.format.specs.Faults.{load_number, check_number}
use Rattle.format.specs.Parse.{parse_file}
use Rattle.format.specs.declared.fault.CheckFault.{CheckFault}
use Rattle.format.specs.declared.fault.CheckFault.TheVariants.{Numbers, Shapes, Targets, Scopes}
use Rattle.format.specs.declared.fault.LoadFault.{LoadFault}
use Rattle.format.specs.declared.fault.LoadFault.TheVariants.{File, Check}
use Rattle.load.specs.Loads.{Refused}
use Rattle.questions.specs.Answers.{Faulty}
use Rattle.show.specs.Shown.{check_refusal, refusal_of, shown}

of_check : (F : Function) (f : CheckFault) → Faulty F f → check_refusal F ≡ Some (check_number f)
of_check F (Numbers p) w = grind arith
of_check F (Shapes p) w = grind arith
of_check F (Targets p) w = grind arith
of_check F (Scopes p) w = grind arith

numbered : (bs : List ℕ) (f : LoadFault) → Refused bs f → refusal_of (parse_file bs) ≡ Some (load_number f)
numbered bs (File f) e = ap refusal_of e
numbered bs (Check f) (F, e, w) = ap refusal_of e ∙ of_check F f w

pub shown_refusal : (bs : List ℕ) (f : LoadFault) → Refused bs f → shown bs ≡ decimal (load_number f) ++ 10 ∷ []
shown_refusal bs f h = rw (numbered bs f h) (simp append-nil)
