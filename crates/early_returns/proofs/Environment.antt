-- The five identifiers of a scope, made one after the other, are the five of the description.
-- The first is made at its first open return, the others at its end, and nothing else is made in between.
use Rattle.std.proofs.Common.{◌≡◌, ℕ, suc, ◌+◌, List, [], ◌∷◌, ◌++◌, length, Some, None, refl, ap, ◌∙◌, arith, length-append}
use Rattle.hir.specs.declared.environment.Identifier.{Identifier}
use Rattle.hir.specs.Tree.{ScopeInfo, Block}
use Rattle.early_returns.specs.Statements.{opening}
use Rattle.early_returns.specs.Lowering.{Env, ids, blocks, fresh, change, after_scope}
use Rattle.early_returns.specs.Pass.{create_temporary, promoted, EarlyReturnInfo, early_return, apply_early_return}

change_last : {A : Type 0} (xs : List A) (a : A) (f : A → A) → change (xs ++ (a ∷ [])) (length xs) f ≡ xs ++ (f a ∷ [])
unfolding change
change_last [] a f = refl
change_last (x ∷ xs) a f = ap {B = List _} (λ r. x ∷ r) (change_last xs a f)

append_assoc : {A : Type 0} (xs ys zs : List A) → (xs ++ ys) ++ zs ≡ xs ++ (ys ++ zs)
append_assoc [] ys zs = refl
append_assoc (x ∷ xs) ys zs = ap {B = List _} (λ r. x ∷ r) (append_assoc xs ys zs)

-- identifiers ys were added to xs, with as many types and ranges
abbrev grown : ℕ → ℕ → ℕ → List Identifier → List Identifier → List ScopeInfo → Env
grown l t r xs ys ss = record { counters = record { blocks = l; types = t; ranges = r }; identifiers = xs ++ ys; scopes = ss }

grows : (l t r k : ℕ) (xs ys : List Identifier) (ss : List ScopeInfo) (span : ℕ) → length ys ≡ k
    → create_temporary span (grown l (t + k) (r + k) xs ys ss) ≡ grown l (t + suc k) (r + suc k) xs (ys ++ (fresh (length xs + k) None (t + k) (r + k) span ∷ [])) ss
grows l t r k xs ys ss span e =
    let a : t + k + 1 ≡ t + suc k = omega arith in
    let b : r + k + 1 ≡ r + suc k = omega arith in
    rw (length-append xs ys, e, append_assoc xs ys (fresh (length xs + k) None (t + k) (r + k) span ∷ []), a, b)

-- the four temporaries of a recorded scope, from the environment r
module _ (v l span : ℕ) (b : Block) where
  abbrev opens : Env → Env → Env → Env → Env → Block × Env
  opens r s y f a = (opening v (ids r) (ids s) (ids y) (ids f) l span b, a)

  abbrev make : Env → Env
  make e = create_temporary span e

  abbrev whole : Env → Block × Env
  whole r = opens r (make r) (make (make r)) (make (make (make r))) (make (make (make (make r))))

  four : (r s y f a : Env) (i j k h : ℕ) → make r ≡ s → make s ≡ y → make y ≡ f → make f ≡ a → ids r ≡ i → ids s ≡ j → ids y ≡ k → ids f ≡ h → whole r ≡ (opening v i j k h l span b, a)
  four r s y f a i j k h p q u w ei ej ek eh =
      ap (λ s. opens r s (make s) (make (make s)) (make (make (make s)))) p
      ∙ ap (λ y. opens r s y (make y) (make (make y))) q
      ∙ ap (λ f. opens r s y f (make f)) u
      ∙ ap (λ a. opens r s y f a) w
      ∙ rw (ei, ej, ek, eh)

-- the environment at an outermost scope's end: its first open return took the first of the five
abbrev pub taken : ℕ → Env → EarlyReturnInfo × Env
taken span e = early_return None span e

pub apply_five : (x span : ℕ) (b : Block) (e : Env)
    → apply_early_return x b (taken span e).0 (taken span e).1 ≡ (opening (ids e) (ids e + 1) (ids e + 2) (ids e + 3) (ids e + 4) (blocks e) span b, after_scope (Some span) x e)
apply_five x span b e =
    let xs : List Identifier = e.identifiers in
    let n : ℕ = length xs in
    let t : ℕ = e.counters.types in
    let r : ℕ = e.counters.ranges in
    let l : ℕ = blocks e + 1 in
    let ss : List ScopeInfo = (after_scope (Some span) x e).scopes in
    let ys : List Identifier = promoted (fresh n None t r span) ∷ [] in
    let y₁ : List Identifier = ys ++ (fresh (n + 1) None (t + 1) (r + 1) span ∷ []) in
    let y₂ : List Identifier = y₁ ++ (fresh (n + 2) None (t + 2) (r + 2) span ∷ []) in
    let y₃ : List Identifier = y₂ ++ (fresh (n + 3) None (t + 3) (r + 3) span ∷ []) in
    let y₄ : List Identifier = y₃ ++ (fresh (n + 4) None (t + 4) (r + 4) span ∷ []) in
    let g₀ : Env = grown l (t + 1) (r + 1) xs ys ss in
    let g₁ : Env = grown l (t + 2) (r + 2) xs y₁ ss in
    let g₂ : Env = grown l (t + 3) (r + 3) xs y₂ ss in
    let g₃ : Env = grown l (t + 4) (r + 4) xs y₃ ss in
    let g₄ : Env = grown l (t + 5) (r + 5) xs y₄ ss in
    ap (λ (is : List Identifier). whole n (blocks e) span b (record { counters = record { blocks = l; types = t + 1; ranges = r + 1 }; identifiers = is; scopes = ss })) (change_last xs (fresh n None t r span) promoted)
    ∙ four n (blocks e) span b g₀ g₁ g₂ g₃ g₄ (n + 1) (n + 2) (n + 3) (n + 4) (grows l t r 1 xs ys ss span refl) (grows l t r 2 xs y₁ ss span refl) (grows l t r 3 xs y₂ ss span refl) (grows l t r 4 xs y₃ ss span refl)
    (length-append xs ys) (length-append xs y₁) (length-append xs y₂) (length-append xs y₃)
