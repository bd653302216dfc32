-- The limits as a test and as facts: each gives the other. Assumes nothing.
use Rattle.std.proofs.Common.{◌≡◌, Bool, true, false, ◌&&◌, le-leb, leb-true}
use Rattle.std.proofs.lemmas.Bool.{and_parts}
use Rattle.hir.specs.declared.used.Used.{Used}
use Rattle.hir.specs.Limits.{Within, within}

pub both : (a b : Bool) → a ≡ true → b ≡ true → (a && b) ≡ true
both true b p q = q
both false b p q = p

pub within_true : (a b : Used) → Within a b → within a b ≡ true
unfolding within
within_true a b w =
    both _ _ (le-leb _ _ w.statements) (both _ _ (le-leb _ _ w.values) (both _ _ (le-leb _ _ w.places) (both _ _ (le-leb _ _ w.identifiers)
    (both _ _ (le-leb _ _ w.scopes) (both _ _ (le-leb _ _ w.declarations) (le-leb _ _ w.cases))))))

pub true_within : (a b : Used) → within a b ≡ true → Within a b
unfolding within
true_within a b e =
    let e₁ = and_parts _ _ e in
    let e₂ = and_parts _ _ e₁.1 in
    let e₃ = and_parts _ _ e₂.1 in
    let e₄ = and_parts _ _ e₃.1 in
    let e₅ = and_parts _ _ e₄.1 in
    let e₆ = and_parts _ _ e₅.1 in
    record {
      statements = leb-true _ _ e₁.0;
      values = leb-true _ _ e₂.0;
      places = leb-true _ _ e₃.0;
      identifiers = leb-true _ _ e₄.0;
      scopes = leb-true _ _ e₅.0;
      declarations = leb-true _ _ e₆.0;
      cases = leb-true _ _ e₆.1;
    }
