-- Declarations in one table, asked once each, are those of the scopes' lists.
use Rattle.std.proofs.Common.{◌≡◌, ℕ, zero, suc, ◌+◌, ◌<◌, ◌≤◌, Bool, true, false, cond, ◌&&◌, ◌||◌, eqb, ltb, ◌⊎◌, List, [], ◌∷◌, length, sym, refl, ap, ◌∙◌, ap₂, inl, inr, arith}
use Rattle.std.specs.List.{list_all}
use Rattle.std.proofs.lemmas.Bool.{lt-ltb, le-ltb, eq-eqb, ne_eqb, cases_lt, cases_eq, or_left, or_right, or_from}
use Rattle.hir.specs.declared.environment.Declared.{Declared}
use Rattle.hir.specs.declared.environment.ReactiveScope.{ReactiveScope}
use Rattle.hir.specs.Held.{owned, scopes_from}
use Rattle.hir.specs.Tree.{ScopeInfo}
use Rattle.questions.specs.declared.line.Bounds.{Bounds}
use Rattle.questions.specs.Questions.{early_in, declaration_in, scope_in, unrecorded}
use Rattle.questions.specs.Tables.{declared_in}

-- is o among the n scopes from x on?
abbrev in_row : ℕ → ℕ → ℕ → Bool
in_row x zero o = false
in_row x (suc n) o = eqb o x || in_row (suc x) n o

row_yes : (x n o : ℕ) → x ≤ o → o < x + n → in_row x n o ≡ true
row_yes x zero o h k = absurd (omega arith)
row_yes x (suc n) o h k =
    elim (cases_eq o x) [
      | inl e ↦ or_left (eqb o x) (in_row (suc x) n o) (eq-eqb o x e)
      | inr ne ↦ or_right (eqb o x) (in_row (suc x) n o) (row_yes (suc x) n o (omega (arith, ne)) (omega arith))
    ]

row_no : (x n o : ℕ) → (o < x) ⊎ (x + n ≤ o) → in_row x n o ≡ false
row_no x zero o h = refl
row_no x (suc n) o (inl h) = or_from (eqb o x) (in_row (suc x) n o) (ne_eqb o x (λ e. omega arith)) (row_no (suc x) n o (inl (omega arith)))
row_no x (suc n) o (inr h) = or_from (eqb o x) (in_row (suc x) n o) (ne_eqb o x (λ e. omega arith)) (row_no (suc x) n o (inr (omega arith)))

row_from_0 : (n o : ℕ) → in_row 0 n o ≡ ltb o n
row_from_0 n o =
    elim (cases_lt o n) [
      | inl h ↦ row_yes 0 n o (omega arith) (omega arith) ∙ sym (lt-ltb o n h)
      | inr h ↦ row_no 0 n o (inr (omega arith)) ∙ sym (le-ltb o n h)
    ]

module _ (B : Bounds) where
  abbrev asked : ℕ → ℕ → Declared → Bool
  asked x n d = cond (in_row x n d.owner) (declaration_in B d.declaration) true

  split : (a b p e r : Bool) → (cond (a || b) p true && (e && r)) ≡ (cond a (p && e) e && (cond b p true && r))
  split true true true e r = refl
  split true true false e r = refl
  split true false true e r = refl
  split true false false e r = refl
  split false true true e r = refl
  split false true false true r = refl
  split false true false false r = refl
  split false false p e r = refl

  swap_in : (b : Bool) (d : Declared) (ds : List Declared) (x : ℕ) → eqb d.owner x ≡ b → list_all (declaration_in B) (owned x (d ∷ ds)) ≡ cond b (declaration_in B d.declaration && list_all (declaration_in B) (owned x ds)) (list_all (declaration_in B) (owned x ds))
  swap_in true d ds x e = ap (λ t. list_all (declaration_in B) (cond t (d.declaration ∷ owned x ds) (owned x ds))) e
  swap_in false d ds x e = ap (λ t. list_all (declaration_in B) (cond t (d.declaration ∷ owned x ds) (owned x ds))) e

  asked_split : (x n : ℕ) (ds : List Declared) → list_all (asked x (suc n)) ds ≡ (list_all (declaration_in B) (owned x ds) && list_all (asked (suc x) n) ds)
  asked_split x n [] = refl
  asked_split x n (d ∷ ds) =
      let p = declaration_in B d.declaration in
      let e = list_all (declaration_in B) (owned x ds) in
      let r = list_all (asked (suc x) n) ds in
      ap (λ t. cond (eqb d.owner x || in_row (suc x) n d.owner) p true && t) (asked_split x n ds)
      ∙ split (eqb d.owner x) (in_row (suc x) n d.owner) p e r
      ∙ ap (λ t. t && (cond (in_row (suc x) n d.owner) p true && r)) (sym (swap_in (eqb d.owner x) d ds x refl))

  asked_none : (x : ℕ) (ds : List Declared) → list_all (asked x zero) ds ≡ true
  asked_none x [] = refl
  asked_none x (d ∷ ds) = asked_none x ds

  shuffle : (a e r d : Bool) → ((a && e) && (r && d)) ≡ ((a && r) && (e && d))
  shuffle true true r d = refl
  shuffle true false true d = refl
  shuffle true false false d = refl
  shuffle false e r d = refl

  scopes_asked : (x : ℕ) (ss : List ReactiveScope) (ds : List Declared) → list_all (scope_in B) (scopes_from x ss ds) ≡ (list_all (λ (s : ReactiveScope). early_in B s.early) ss && list_all (asked x (length ss)) ds)
  scopes_asked x [] ds = sym (asked_none x ds)
  scopes_asked x (s ∷ ss) ds =
      ap (λ t. (early_in B s.early && list_all (declaration_in B) (owned x ds)) && t) (scopes_asked (suc x) ss ds)
      ∙ shuffle (early_in B s.early) (list_all (declaration_in B) (owned x ds)) (list_all (λ (s : ReactiveScope). early_in B s.early) ss) (list_all (asked (suc x) (length ss)) ds)
      ∙ ap (λ t. (early_in B s.early && list_all (λ (s : ReactiveScope). early_in B s.early) ss) && t) (sym (asked_split x (length ss) ds))

  asked_declared : (n : ℕ) (ds : List Declared) → n ≡ B.scopes → list_all (asked 0 n) ds ≡ list_all (declared_in B) ds
  asked_declared n [] e = refl
  asked_declared n (d ∷ ds) e = ap₂ (λ t r. cond t (declaration_in B d.declaration) true && r) (row_from_0 n d.owner ∙ ap (ltb d.owner) e) (asked_declared n ds e)

  pub scopes_declared : (ss : List ReactiveScope) (ds : List Declared) → length ss ≡ B.scopes → (list_all (λ (s : ReactiveScope). early_in B s.early) ss && list_all (declared_in B) ds) ≡ list_all (scope_in B) (scopes_from 0 ss ds)
  scopes_declared ss ds e = sym (scopes_asked 0 ss ds ∙ ap (λ t. list_all (λ (s : ReactiveScope). early_in B s.early) ss && t) (asked_declared (length ss) ds e))

pub scopes_long : (x : ℕ) (ss : List ReactiveScope) (ds : List Declared) → length (scopes_from x ss ds) ≡ length ss
scopes_long x [] ds = refl
scopes_long x (s ∷ ss) ds = ap suc (scopes_long (suc x) ss ds)

pub scopes_recordless : (x : ℕ) (ss : List ReactiveScope) (ds : List Declared) → list_all (λ (s : ReactiveScope). unrecorded s.early) ss ≡ list_all (λ (s : ScopeInfo). unrecorded s.early) (scopes_from x ss ds)
scopes_recordless x [] ds = refl
scopes_recordless x (s ∷ ss) ds = ap (λ t. unrecorded s.early && t) (scopes_recordless (suc x) ss ds)
