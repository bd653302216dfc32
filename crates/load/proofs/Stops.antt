-- A function that hands on the refusal of a call, and a depth that one level takes from. Assumes nothing.
use Rattle.std.proofs.Common.{◌≡◌, ℕ, suc, ◌-◌, ◌≤◌, Some, Err, Option, Result, SomeIff, ap, subst, ◌∙◌, arith}
use Rattle.std.specs.Prelude.{IsErr, IsErrAnd}
use Rattle.std.proofs.lemmas.Result.{err_from_is_err_and}

pub handed_on : {X E : Type 0} (r : Result X E) {x : E} → IsErr r × IsErrAnd r (λ e. e ≡ x) → r ≡ Err x
handed_on r h = let p = err_from_is_err_and r h.1 in p.1 ∙ ap Err p.2

pub one_less : {r : Option ℕ} {d j : ℕ} → SomeIff r (1 ≤ d) (d - 1) → r ≡ Some j → d ≡ suc j
one_less {r} {d} {j} h e = let p = subst (λ (o : Option ℕ). SomeIff o (1 ≤ d) (d - 1)) e h in omega (arith, p.0, p.1)
