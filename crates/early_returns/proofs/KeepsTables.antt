-- The lowered function's identifiers and scopes are in range: each treated scope adds five identifiers, a record and a declaration.
-- The tables are held to the numbers that there are so far.
use Rattle.std.proofs.Common.{◌≡◌, ℕ, zero, suc, ◌+◌, ◌<◌, ◌≤◌, List, [], ◌∷◌, length, Some, None, Option, ◌∙◌, arith}
use Rattle.hir.specs.declared.environment.ReactiveScopeEarlyReturn.{ReactiveScopeEarlyReturn}
use Rattle.hir.specs.Tree.{Block, ScopeInfo}
use Rattle.simulation.specs.WellFormed.{All, Sizes, IdentifierOk, DeclarationOk, ScopeOk, OkB}
use Rattle.simulation.proofs.Lists.{all_map, all_both}
use Rattle.simulation.proofs.Larger.{Larger, more_identifier, more_scope}
use Rattle.early_returns.specs.Lowering.{Env, ids, blocks, five, change, with_record, after_scope, after_b}
use Rattle.early_returns.proofs.Growth.{Grown, five_more, through_b}
use Rattle.early_returns.proofs.Again.{change_length}

abbrev pub env_sizes : Env → Sizes
env_sizes e = record { identifiers = ids e; scopes = length e.scopes; blocks = blocks e; types = e.counters.types; ranges = e.counters.ranges }

pub grown_larger : {e d : Env} → Grown e d → Larger (env_sizes e) (env_sizes d)
grown_larger g = record { more_identifiers = g.more_ids; more_scopes = omega (arith, g.same_scopes); more_blocks = g.more_blocks; more_types = g.more_types; more_ranges = g.more_ranges }

all_change : {A : Type 0} (P Q : A → Type 0) (xs : List A) (x : ℕ) (f : A → A) → ((a : A) → P a → Q a) → ((a : A) → P a → Q (f a)) → All P xs → All Q (change xs x f)
unfolding change
all_change P Q [] x f g k h = tt
all_change P Q (a ∷ xs) zero f g k h = (k a h.0, all_map P Q xs g h.1)
all_change P Q (a ∷ xs) (suc x) f g k h = (g a h.0, all_change P Q xs x f g k h.1)

pub record TablesOk (Z : Sizes) (e : Env) : Type 0 where
  pub identifiers_in : All (IdentifierOk (env_sizes e)) e.identifiers
  pub scopes_in : All (ScopeOk (env_sizes e)) e.scopes
  pub many_scopes : length e.scopes ≡ Z.scopes

five_ok : (Z : Sizes) (n t r span : ℕ) → n + 5 ≤ Z.identifiers → t + 5 ≤ Z.types → r + 5 ≤ Z.ranges → All (IdentifierOk Z) (five n t r span)
five_ok Z n t r span hn ht hr = (
  record { declaration_in = omega arith; range_in = omega arith; scope_in = tt; type_in = omega arith },
  (
    record { declaration_in = omega arith; range_in = omega arith; scope_in = tt; type_in = omega arith },
    (
      record { declaration_in = omega arith; range_in = omega arith; scope_in = tt; type_in = omega arith },
      (
        record { declaration_in = omega arith; range_in = omega arith; scope_in = tt; type_in = omega arith },
        (record { declaration_in = omega arith; range_in = omega arith; scope_in = tt; type_in = omega arith }, tt),
      ),
    ),
  ),
)

record_ok : (Z Z' : Sizes) → Larger Z Z' → (x : ℕ) (r : ReactiveScopeEarlyReturn) → x < Z'.scopes → r.value < Z'.identifiers → r.label < Z'.blocks → (s : ScopeInfo) → ScopeOk Z s → ScopeOk Z' (with_record x r s)
record_ok Z Z' m x r hx hv hl s w = record {
  record_in = record { value_in = hv; label_in = hl };
  declarations_in = all_both (DeclarationOk Z') s.declarations _ (more_scope Z Z' m s w).declarations_in (record { key_in = hv; identifier_in = hv; scope_in = hx }, tt);
}

tables_step : (Z : Sizes) (o : Option ℕ) (x : ℕ) (e : Env) → x < Z.scopes → TablesOk Z e → TablesOk Z (after_scope o x e)
tables_step Z None x e lo h = h
tables_step Z (Some span) x e lo h = record {
  identifiers_in = all_both (IdentifierOk Z₂) e.identifiers _
      (all_map (IdentifierOk Z₁) (IdentifierOk Z₂) e.identifiers (more_identifier Z₁ Z₂ larger) h.identifiers_in)
      (five_ok Z₂ (ids e) e.counters.types e.counters.ranges span (omega (arith, five_more e x span)) (omega arith) (omega arith));
  scopes_in = all_change (ScopeOk Z₁) (ScopeOk Z₂) e.scopes x _ (more_scope Z₁ Z₂ larger)
      (record_ok Z₁ Z₂ larger x _ (omega (arith, lo, h.many_scopes, same)) (omega (arith, five_more e x span)) (omega arith)) h.scopes_in;
  many_scopes = same ∙ h.many_scopes;
}
  where
    Z₁ : Sizes
    Z₁ = env_sizes e

    Z₂ : Sizes
    Z₂ = env_sizes (after_scope (Some span) x e)

    same : length (after_scope (Some span) x e).scopes ≡ length e.scopes
    same = change_length e.scopes x _

    larger : Larger Z₁ Z₂
    larger = record { more_identifiers = omega (arith, five_more e x span); more_scopes = omega (arith, same); more_blocks = omega arith; more_types = omega arith; more_ranges = omega arith }

pub tables_ok : (rec : ℕ → Option ℕ) (Z : Sizes) (b : Block) (e : Env) → OkB Z b → TablesOk Z e → TablesOk Z (after_b rec b e)
tables_ok rec Z b e w h = through_b rec Z (TablesOk Z) (tables_step Z) b e w h
