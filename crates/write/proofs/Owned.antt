-- The declarations in a scope's list, and the scopes, as a loop comes by them one by one. Assumes nothing.
use Rattle.std.proofs.Common.{count_by, ◌==◌, arith, ◌≡◌, ℕ, zero, suc, ◌+◌, ◌<◌, cond, ◌≢◌, List, [], ◌∷◌, ◌++◌, length, get_or, drop, sym, refl, ap, ◌∙◌, add-one, add-zero, eq-eqb, ne_eqb}
use Rattle.std.proofs.lemmas.List.{drop_more}
use Rattle.std.proofs.lemmas.List.Recursion.{is_count_by}
use Rattle.hir.specs.declared.environment.Declared.{Declared}
use Rattle.hir.specs.declared.environment.ReactiveScope.{ReactiveScope}
use Rattle.hir.specs.Encode.{items_words, declaration_words, scope_words}
use Rattle.hir.specs.Held.{owned, scopes_from}
use Rattle.hir.specs.Tree.{ScopeInfo}
use Rattle.write.specs.Scopes.{scope_of}

pub owned_counted : (x : ℕ) (ds : List Declared) → length (owned x ds) ≡ count_by (λ (d : Declared). d.owner == x) ds
owned_counted x = is_count_by (λ ds. length (owned x ds)) (λ d. d.owner == x) refl (λ d ds. grind arith)

-- the words of those from item i on
abbrev pub owned_from : ℕ → List Declared → ℕ → List ℕ
owned_from x ds i = items_words declaration_words (owned x (drop i ds))

module _ (x : ℕ) (ds : List Declared) (i : ℕ) (d : Declared) (h : i < length ds) where
  pub owned_taken : (get_or ds i d).owner ≡ x → owned_from x ds i ≡ declaration_words (get_or ds i d).declaration ++ owned_from x ds (i + 1)
  owned_taken e =
      ap (λ l. items_words declaration_words (owned x l)) (drop_more ds i d h)
      ∙ ap (λ b. items_words declaration_words (cond b ((get_or ds i d).declaration ∷ owned x (drop (i + 1) ds)) (owned x (drop (i + 1) ds)))) (eq-eqb (get_or ds i d).owner x e)

  pub owned_passed : (get_or ds i d).owner ≢ x → owned_from x ds i ≡ owned_from x ds (i + 1)
  owned_passed ne =
      ap (λ l. items_words declaration_words (owned x l)) (drop_more ds i d h)
      ∙ ap (λ b. items_words declaration_words (cond b ((get_or ds i d).declaration ∷ owned x (drop (i + 1) ds)) (owned x (drop (i + 1) ds)))) (ne_eqb (get_or ds i d).owner x ne)

abbrev pub scopes_left : List ReactiveScope → List Declared → ℕ → List ℕ
scopes_left ss ds i = items_words scope_words (scopes_from i (drop i ss) ds)

pub scopes_more : (ss : List ReactiveScope) (ds : List Declared) (i : ℕ) (s : ReactiveScope) → i < length ss → scopes_left ss ds i ≡ scope_words (scope_of (get_or ss i s) i ds) ++ scopes_left ss ds (i + 1)
scopes_more ss ds i s h =
    ap (λ l. items_words scope_words (scopes_from i l ds)) (drop_more ss i s h)
    ∙ ap (λ n. scope_words (scope_of (get_or ss i s) i ds) ++ items_words scope_words (scopes_from n (drop (i + 1) ss) ds)) (sym (add-one i))

pub scopes_at : (x : ℕ) (ss : List ReactiveScope) (ds : List Declared) (i : ℕ) (s : ReactiveScope) (e : ScopeInfo) → i < length ss → get_or (scopes_from x ss ds) i e ≡ scope_of (get_or ss i s) (x + i) ds
scopes_at x [] ds i s e h = absurd (omega arith)
scopes_at x (t ∷ ss) ds zero s e h = ap (λ n. scope_of t n ds) (sym (add-zero x))
scopes_at x (t ∷ ss) ds (suc i) s e h =
    let n : suc x + i ≡ x + suc i = omega arith in
    scopes_at (suc x) ss ds i s e (omega arith) ∙ ap (λ m. scope_of (get_or ss i s) m ds) n
