-- The function that the parts of tables stand for. Assumes nothing.
use Rattle.std.specs.Prelude.{ℕ, suc, cond, List, [], ◌∷◌, vec_items, ◌==◌}
use Rattle.std.specs.Option.{unwrap_or}
use Rattle.hir.specs.declared.arena.Arena.{Arena}
use Rattle.hir.specs.declared.environment.Declared.{Declared}
use Rattle.hir.specs.declared.environment.Environment.{Environment}
use Rattle.hir.specs.declared.environment.ReactiveScope.{ReactiveScope}
use Rattle.hir.specs.declared.environment.ReactiveScopeDeclaration.{ReactiveScopeDeclaration}
use Rattle.hir.specs.declared.range.Range.{Range}
use Rattle.hir.specs.declared.value_arena.ValueArena.{ValueArena}
use Rattle.hir.specs.Decode.{ValueSlots, Slots, root_of}
use Rattle.hir.specs.Tree.{Block, nil, ScopeInfo, Function}

abbrev pub value_slots : ValueArena → ValueSlots
value_slots a = record { values = vec_items a.values.vec; instructions = vec_items a.instructions.table.vec; places = vec_items a.places.vec }

abbrev pub slots : Arena → Slots
slots a = record { inner = value_slots a.inner; statements = vec_items a.statements.vec; entries = vec_items a.entries.table.vec; cases = vec_items a.cases.table.vec }

-- the declarations in a scope's list
abbrev pub owned : ℕ → List Declared → List ReactiveScopeDeclaration
owned x [] = []
owned x (d ∷ ds) = cond (d.owner == x) (d.declaration ∷ owned x ds) (owned x ds)

-- the scopes from number x on
abbrev pub scopes_from : ℕ → List ReactiveScope → List Declared → List ScopeInfo
scopes_from x [] ds = []
scopes_from x (s ∷ ss) ds = record { early = s.early; declarations = owned x ds } ∷ scopes_from (suc x) ss ds

abbrev pub body_held : Arena → Range → Block
body_held a r = unwrap_or (root_of (slots a) r) nil

unfoldable pub held : Environment → Arena → Range → Function
held e a r =
    record {
      counters = e.counters;
      identifiers = vec_items e.identifiers.vec;
      scopes = scopes_from 0 (vec_items e.scopes.vec) (vec_items e.declarations.vec);
      body = body_held a r;
    }
