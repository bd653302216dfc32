-- The record of a scope in the tables.
-- The function's list of scopes has each scope's record at its place.
use Rattle.std.proofs.Common.{◌≡◌, ℕ, zero, suc, ◌<◌, ◌≤◌, List, [], ◌∷◌, length, get_or, None, vec_items, sym, refl, ap, arith}
use Rattle.hir.specs.Held.{held, scopes_from}
use Rattle.hir.specs.Tables.{function_of}
use Rattle.hir.specs.declared.environment.Declared.{Declared}
use Rattle.hir.specs.declared.environment.ReactiveScope.{ReactiveScope}
use Rattle.hir.specs.declared.tables.Tables.{Tables}
use Rattle.semantics.specs.Exec.{records_of, recorded_place}

there : (n x : ℕ) (ss : List ReactiveScope) (ds : List Declared) (s : ReactiveScope) → x < length ss → s ≡ get_or ss x s → records_of (scopes_from n ss ds) x ≡ recorded_place s.early
unfolding records_of
there n x [] ds s h e = absurd (omega arith)
there n zero (y ∷ ss) ds s h e = ap (λ (z : ReactiveScope). recorded_place z.early) (sym e)
there n (suc x) (y ∷ ss) ds s h e = there (suc n) x ss ds s (omega arith) e

beyond : (n x : ℕ) (ss : List ReactiveScope) (ds : List Declared) → length ss ≤ x → records_of (scopes_from n ss ds) x ≡ None
unfolding records_of
beyond n x [] ds h = refl
beyond n zero (y ∷ ss) ds h = absurd (omega arith)
beyond n (suc x) (y ∷ ss) ds h = beyond (suc n) x ss ds (omega arith)

module _ (T : Tables) (x : ℕ) where
  pub record_there : (s : ReactiveScope) → x < length (vec_items T.environment.scopes.vec) → s ≡ get_or (vec_items T.environment.scopes.vec) x s
      → records_of (function_of T).scopes x ≡ recorded_place s.early
  unfolding held
  record_there s h e = there 0 x (vec_items T.environment.scopes.vec) (vec_items T.environment.declarations.vec) s h e

  pub record_beyond : length (vec_items T.environment.scopes.vec) ≤ x → records_of (function_of T).scopes x ≡ None
  unfolding held
  record_beyond h = beyond 0 x (vec_items T.environment.scopes.vec) (vec_items T.environment.declarations.vec) h
