-- What the reading of identifiers and scopes leaves in the environment. Assumes nothing.
use Rattle.std.specs.Prelude.{◌≡◌, ℕ, ◌≤◌, Bool, true, false, List, [], ◌∷◌, ◌++◌, length, Ok, vec_items, vec_len}
use Rattle.hir.specs.declared.environment.Declared.{Declared}
use Rattle.hir.specs.declared.environment.Environment.{Environment}
use Rattle.hir.specs.declared.environment.Identifier.{Identifier}
use Rattle.hir.specs.declared.environment.ReactiveScopeDeclaration.{ReactiveScopeDeclaration}
use Rattle.hir.specs.declared.used.Used.{Used}
use Rattle.hir.specs.Held.{owned, scopes_from}
use Rattle.hir.specs.Tree.{ScopeInfo}
use Rattle.format.specs.Parse.{Cursor, Read, onto, times, until_end, every, identifier, declaration, scope_info}

abbrev pub none_left : List ℕ → Bool
none_left [] = true
none_left (w ∷ ws) = false

-- what stands in the tables was counted as it began
pub record TablesRoom (e : Environment) (u : Used) : Type 0 where
  pub identifiers : vec_len e.identifiers.vec ≤ u.identifiers
  pub scopes : vec_len e.scopes.vec ≤ u.scopes
  pub declarations : vec_len e.declarations.vec ≤ u.declarations

-- the identifiers that a section's reader read, and where it stands after them
pub record IdentifiersIn (a b : Environment) (c d : Cursor) : Type 0 where
  pub row : List Identifier
  pub parsed : every identifier c ≡ Ok (row, d)
  pub items : vec_items b.identifiers.vec ≡ vec_items a.identifiers.vec ++ row
  pub room : TablesRoom b d.used
  pub scopes : b.scopes.vec ≡ a.scopes.vec
  pub declarations : b.declarations.vec ≡ a.declarations.vec
  pub counters : b.counters ≡ a.counters

-- as a scope's list holds them
abbrev pub declared : ℕ → List ReactiveScopeDeclaration → List Declared
declared n [] = []
declared n (d ∷ ds) = record { owner = n; declaration = d } ∷ declared n ds

pub record DeclarationsIn (owner n : ℕ) (a b : Environment) (c d : Cursor) : Type 0 where
  pub row : List ReactiveScopeDeclaration
  pub parsed : times declaration n c ≡ Ok (row, d)
  pub items : vec_items b.declarations.vec ≡ vec_items a.declarations.vec ++ declared owner row
  pub room : TablesRoom b d.used
  pub later : c.used.scopes ≤ d.used.scopes
  pub scopes : b.scopes.vec ≡ a.scopes.vec
  pub identifiers : b.identifiers.vec ≡ a.identifiers.vec
  pub counters : b.counters ≡ a.counters

pub record ScopeIn (a b : Environment) (c d : Cursor) : Type 0 where
  pub info : ScopeInfo
  pub parsed : scope_info c ≡ Ok (info, d)
  pub scopes : vec_items b.scopes.vec ≡ vec_items a.scopes.vec ++ record { early = info.early } ∷ []
  pub declarations : vec_items b.declarations.vec ≡ vec_items a.declarations.vec ++ declared (vec_len a.scopes.vec) info.declarations
  pub room : TablesRoom b d.used
  pub identifiers : b.identifiers.vec ≡ a.identifiers.vec
  pub counters : b.counters ≡ a.counters

-- no declaration is of a scope that is not there
abbrev pub Owners : Environment → Type 0
Owners e = (x : ℕ) → vec_len e.scopes.vec ≤ x → owned x (vec_items e.declarations.vec) ≡ []

abbrev pub infos : Environment → List ScopeInfo
infos e = scopes_from 0 (vec_items e.scopes.vec) (vec_items e.declarations.vec)

-- the scopes that a section's reader read, and where it stands after them
pub record ScopesIn (a b : Environment) (c d : Cursor) : Type 0 where
  pub row : List ScopeInfo
  pub parsed : every scope_info c ≡ Ok (row, d)
  pub stands : infos b ≡ infos a ++ row
  pub owners : Owners b
  pub room : TablesRoom b d.used
  pub identifiers : b.identifiers.vec ≡ a.identifiers.vec
  pub counters : b.counters ≡ a.counters

-- ---- in the middle of a section: the items so far, and what the rest is still to be read by
pub record Midway {X : Type 0} (p : Cursor → Read X) (row : List X) (c d : Cursor) : Type 0 where
  pub left : ℕ
  pub enough : length d.rest ≤ left
  pub same : every p c ≡ onto (until_end p left d.rest d) (λ ys e. Ok (row ++ ys, e))

pub record IdentifiersMid (a b : Environment) (c d : Cursor) : Type 0 where
  pub row : List Identifier
  pub mid : Midway identifier row c d
  pub items : vec_items b.identifiers.vec ≡ vec_items a.identifiers.vec ++ row
  pub room : TablesRoom b d.used
  pub scopes : b.scopes.vec ≡ a.scopes.vec
  pub declarations : b.declarations.vec ≡ a.declarations.vec
  pub counters : b.counters ≡ a.counters

pub record ScopesMid (a b : Environment) (c d : Cursor) : Type 0 where
  pub row : List ScopeInfo
  pub mid : Midway scope_info row c d
  pub stands : infos b ≡ infos a ++ row
  pub owners : Owners b
  pub room : TablesRoom b d.used
  pub identifiers : b.identifiers.vec ≡ a.identifiers.vec
  pub counters : b.counters ≡ a.counters
