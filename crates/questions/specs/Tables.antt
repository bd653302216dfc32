-- What is asked of the tables as the code holds them: declarations in one table, each with the scope whose list it is in. Assumes nothing.
use Rattle.std.specs.Prelude.{Bool, true, cond, ◌&&◌, vec_items, vec_len, nat_lt}
use Rattle.std.specs.List.{list_all}
use Rattle.hir.specs.declared.environment.Declared.{Declared}
use Rattle.hir.specs.declared.environment.Environment.{Environment}
use Rattle.hir.specs.declared.environment.ReactiveScope.{ReactiveScope}
use Rattle.questions.specs.declared.line.Bounds.{Bounds}
use Rattle.questions.specs.Questions.{identifier_in, early_in, declaration_in}

abbrev pub bounds_in : Environment → Bounds
bounds_in e = record { identifiers = vec_len e.identifiers.vec; scopes = vec_len e.scopes.vec; blocks = e.counters.blocks; types = e.counters.types; ranges = e.counters.ranges }

abbrev pub declared_in : Bounds → Declared → Bool
declared_in B d = cond (nat_lt d.owner B.scopes) (declaration_in B d.declaration) true

abbrev pub tables_in : Bounds → Environment → Bool
tables_in B e =
    list_all (identifier_in B) (vec_items e.identifiers.vec)
    && (list_all (λ (s : ReactiveScope). early_in B s.early) (vec_items e.scopes.vec) && list_all (declared_in B) (vec_items e.declarations.vec))
