-- What the reading of a file's sections leaves. Assumes nothing.
use Rattle.std.specs.Prelude.{◌≡◌, ℕ, ◌-◌, true, false, List, [], ◌++◌, take, drop, is_some, Some, Ok, Err, vec_items, Result, MatchResult}
use Rattle.hir.specs.declared.arena.Arena.{Arena}
use Rattle.hir.specs.declared.environment.Environment.{Environment}
use Rattle.hir.specs.declared.environment.Identifier.{Identifier}
use Rattle.hir.specs.declared.range.Range.{Range}
use Rattle.hir.specs.declared.used.Used.{Used}
use Rattle.hir.specs.Decode.{root_of}
use Rattle.hir.specs.Held.{held, slots}
use Rattle.hir.specs.Limits.{Within, limits}
use Rattle.hir.specs.Sizes.{sizes}
use Rattle.hir.specs.Tree.{Block, ScopeInfo}
use Rattle.format.specs.declared.fault.FileFault.{FileFault}
use Rattle.format.specs.Parse.{Cursor, Read, and_then, to_end, pair, counters, every, identifier, scope_info, block, parse}
use Rattle.load.specs.Environments.{TablesRoom, Owners, infos}

-- where the reading of a section begins
abbrev pub section_cursor : List ℕ → ℕ → ℕ → Used → Cursor
section_cursor ws from to u = record { at = from; rest = take (to - from) (drop from ws); used = u }

-- no word is left, or the first of those left is refused
abbrev pub Finishes : Cursor → Result Used FileFault → Type 0
Finishes c r = MatchResult r (λ u. (c.rest ≡ []) × (u ≡ c.used)) (λ e. to_end {X = Unit {0}} (tt {0}) c.at c.used c.rest ≡ Err e)

-- a section is read to its exact end
abbrev pub whole : {X : Type 0} → (Cursor → Read X) → Cursor → Result (X × Used) FileFault
whole p c = and_then (p c) (λ r. to_end r.0 r.1.at r.1.used r.1.rest)

pub record CountersRead (a b : Environment) (c : Cursor) (v : Used) : Type 0 where
  pub parsed : whole counters c ≡ Ok (b.counters, v)
  pub within : Within v limits
  pub identifiers : b.identifiers.vec ≡ a.identifiers.vec
  pub scopes : b.scopes.vec ≡ a.scopes.vec
  pub declarations : b.declarations.vec ≡ a.declarations.vec

pub record IdentifiersRead (a b : Environment) (c : Cursor) (v : Used) : Type 0 where
  pub row : List Identifier
  pub parsed : whole (every identifier) c ≡ Ok (row, v)
  pub items : vec_items b.identifiers.vec ≡ vec_items a.identifiers.vec ++ row
  pub within : Within v limits
  pub room : TablesRoom b v
  pub counters : b.counters ≡ a.counters
  pub scopes : b.scopes.vec ≡ a.scopes.vec
  pub declarations : b.declarations.vec ≡ a.declarations.vec

pub record ScopesRead (a b : Environment) (c : Cursor) (v : Used) : Type 0 where
  pub row : List ScopeInfo
  pub parsed : whole (every scope_info) c ≡ Ok (row, v)
  pub stands : infos b ≡ infos a ++ row
  pub owners : Owners b
  pub within : Within v limits
  pub room : TablesRoom b v
  pub counters : b.counters ≡ a.counters
  pub identifiers : b.identifiers.vec ≡ a.identifiers.vec

pub record BodyRead (b : Arena) (c : Cursor) (root : Range) (v : Used) : Type 0 where
  pub tree : Block
  pub parsed : whole (block 64) c ≡ Ok (tree, v)
  pub stands : root_of (slots b) root ≡ Some tree
  pub within : Within v limits

-- tables without a slot in use
pub record NoneIn (e : Environment) : Type 0 where
  pub identifiers : vec_items e.identifiers.vec ≡ []
  pub scopes : vec_items e.scopes.vec ≡ []
  pub declarations : vec_items e.declarations.vec ≡ []

pub record NoSlots (a : Arena) : Type 0 where
  pub values : vec_items a.inner.values.vec ≡ []
  pub instructions : vec_items a.inner.instructions.table.vec ≡ []
  pub places : vec_items a.inner.places.vec ≡ []
  pub aside : vec_items a.inner.instructions.waiting.vec ≡ []
  pub statements : vec_items a.statements.vec ≡ []
  pub entries : vec_items a.entries.table.vec ≡ []
  pub cases : vec_items a.cases.table.vec ≡ []
  pub waiting : vec_items a.entries.waiting.vec ≡ []
  pub casing : vec_items a.cases.waiting.vec ≡ []

-- the words say the function that stands at the root, with exactly its slots used
pub record FileIn (e : Environment) (a : Arena) (ws : List ℕ) (root : Range) (used : Used) : Type 0 where
  pub parsed : parse ws ≡ Ok (held e a root)
  pub rooted : is_some (root_of (slots a) root) ≡ true
  pub counted : used ≡ sizes (held e a root)
  pub within : Within used limits

-- where the sections end, as the pairs say
pub record EndsIn (ws : List ℕ) (e₁ e₂ e₃ e₄ : ℕ) : Type 0 where
  pub first : pair ws 0 false 8 ≡ Ok e₁
  pub second : pair ws 2 false e₁ ≡ Ok e₂
  pub third : pair ws 4 false e₂ ≡ Ok e₃
  pub fourth : pair ws 6 true e₃ ≡ Ok e₄
