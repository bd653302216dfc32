-- The store that a run starts with has a place for each identifier of the function, and the request says on which host.
use Rattle.std.proofs.Common.{◌≡◌, ℕ, List, length, vec_len, refl, ap, ◌∙◌, arith}
use Rattle.hir.specs.Held.{held}
use Rattle.hir.specs.Tables.{function_of}
use Rattle.hir.specs.Tree.{Function}
use Rattle.hir.specs.declared.tables.Tables.{Tables}
use Rattle.screen.specs.Arguments.{Asked}
use Rattle.screen.specs.declared.arguments.HostKind.TheVariants as Host
use Rattle.screen.specs.Store.{store_of}
use Rattle.run_screen.specs.Running.{number_run, list_run, lines_for}

counted : (t : Tables) → vec_len t.environment.identifiers.vec ≡ length (function_of t).identifiers
unfolding held
counted t = let n = t.environment.identifiers.vec.ok.0 in omega arith

-- what was made of the values given: v is the vector's content, σ the slice of it
pub started : (t : Tables) (given values σ v : List ℕ) (n : ℕ) → σ ≡ v → v ≡ store_of values n → values ≡ given → n ≡ vec_len t.environment.identifiers.vec → σ ≡ store_of given (length (function_of t).identifiers)
started t given values σ v n a b c d = a ∙ (b ∙ (ap (λ x. store_of x n) c ∙ ap (λ k. store_of given k) (d ∙ counted t)))

module _ (q : Asked) (answers : List ℕ) (F : Function) (σ : List ℕ) where
  pub on_number : q.host ≡ Host.Number → σ ≡ store_of q.values (length F.identifiers) → number_run F q.budget σ ≡ lines_for q answers F
  on_number e s = rw (e, ← s) refl

  pub on_list : q.host ≡ Host.List → σ ≡ store_of q.values (length F.identifiers) → list_run F q.budget σ answers ≡ lines_for q answers F
  on_list e s = rw (e, ← s) refl
