-- What is promised of a file that is read. Assumes nothing.
use Rattle.std.specs.Prelude.{◌≡◌, ℕ, ◌<◌, List, Ok}
use Rattle.std.specs.List.{AllByRecursion}
use Rattle.hir.specs.declared.environment.Counters.{Counters}
use Rattle.hir.specs.declared.environment.Identifier.{Identifier}
use Rattle.hir.specs.declared.used.Used.{Used}
use Rattle.hir.specs.Encode.{encode}
use Rattle.hir.specs.Limits.{Within, limits}
use Rattle.hir.specs.Sizes.{none, sizes}
use Rattle.hir.specs.Tree.{Block, ScopeInfo, Function}
use Rattle.format.specs.Parse.{section, counters, every, identifier, scope_info, block, parse, parse_file}
use Rattle.format.specs.Words.{bytes}

-- its function is written as the same words
abbrev pub WordsComeBack : Type 0
WordsComeBack = (ws : List ℕ) (F : Function) → parse ws ≡ Ok F → encode F ≡ ws

-- and as the same bytes
abbrev pub BytesComeBack : Type 0
BytesComeBack = (bs : List ℕ) (F : Function) → AllByRecursion (λ b. b < 256) bs → parse_file bs ≡ Ok F → bytes (encode F) ≡ bs

-- the slots counted over its sections are those that its function takes, and are within the limits
pub record Counted (F : Function) (u : Used) : Type 0 where
  pub slots : u ≡ sizes F
  pub within : Within u limits

abbrev pub SlotsAreCounted : Type 0
SlotsAreCounted =
    (ws : List ℕ) (e₁ e₂ e₃ e₄ : ℕ) (c : Counters × Used) (i : List Identifier × Used) (s : List ScopeInfo × Used) (b : Block × Used)
    → section counters ws 8 e₁ none ≡ Ok c
    → section (every identifier) ws e₁ e₂ c.1 ≡ Ok i
    → section (every scope_info) ws e₂ e₃ i.1 ≡ Ok s
    → section (block 64) ws e₃ e₄ s.1 ≡ Ok b
    → Counted (record { counters = c.0; identifiers = i.0; scopes = s.0; body = b.0 }) b.1

abbrev pub ReadIsWithin : Type 0
ReadIsWithin = (ws : List ℕ) (F : Function) → parse ws ≡ Ok F → Within (sizes F) limits
