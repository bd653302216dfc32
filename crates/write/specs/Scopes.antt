-- A scope of the table, with the declarations in its list. Assumes nothing.
use Rattle.std.specs.Prelude.{ℕ, List}
use Rattle.hir.specs.declared.environment.Declared.{Declared}
use Rattle.hir.specs.declared.environment.ReactiveScope.{ReactiveScope}
use Rattle.hir.specs.Held.{owned}
use Rattle.hir.specs.Tree.{ScopeInfo}

abbrev pub scope_of : ReactiveScope → ℕ → List Declared → ScopeInfo
scope_of s x ds = record { early = s.early; declarations = owned x ds }
