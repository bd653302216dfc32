-- The first no to a question is the first of its faulty places.
use Rattle.std.proofs.Common.{◌≡◌, ℕ, suc, ◌+◌, ◌%◌, ◌≤◌, Bool, true, false, cond, List, [], ◌∷◌, length, Some, None, Option, refl, ◌∙◌, ap₂, arith}
use Rattle.questions.specs.declared.line.Findings.{Findings}
use Rattle.questions.specs.declared.line.Line.{Line}
use Rattle.questions.specs.Findings.{earliest, step, passed}
use Rattle.questions.specs.Questions.{failing}

-- what was found earlier, or else the first of a list
abbrev pub or_first : Option ℕ → List ℕ → Option ℕ
or_first (Some m) xs = Some m
or_first None [] = None
or_first None (x ∷ xs) = Some x

pub none_more : (o : Option ℕ) → o ≡ or_first o []
none_more None = refl
none_more (Some m) = refl

pub earliest_first : (o : Option ℕ) (well : Bool) (n : ℕ) (xs : List ℕ) → or_first (earliest o well n) xs ≡ or_first o (cond well xs (n ∷ xs))
earliest_first (Some m) well n xs = refl
earliest_first None true n xs = refl
earliest_first None false n xs = refl

-- the count does not wrap
pub counts_on : (n : ℕ) (ls : ℕ) → n + suc ls ≤ 4096 → (n + 1) % 4294967296 ≡ suc n
counts_on n ls h = omega arith

module _ (get : Findings → Option ℕ) (test : Line → Bool) (gets : (f : Findings) (l : Line) → get (step l f) ≡ earliest (get f) (test l) f.next) where
  pub first_failing : (ls : List Line) (f : Findings) → f.next + length ls ≤ 4096 → get (passed ls f) ≡ or_first (get f) (failing test f.next ls)
  first_failing [] f h = none_more (get f)
  first_failing (l ∷ ls) f h =
      let next = counts_on f.next (length ls) h in
      let rest = first_failing ls (step l f) (omega (arith, next)) in
      rest ∙ ap₂ (λ o n. or_first o (failing test n ls)) (gets f l) next ∙ earliest_first (get f) (test l) f.next (failing test (suc f.next) ls)
