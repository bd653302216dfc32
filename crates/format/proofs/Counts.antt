-- The slots that a reading counts are those that the function takes, and they are within the limits. Assumes nothing.
use Rattle.std.proofs.Common.{◌≡◌, ℕ, List, length, Ok, ap, ◌∙◌, subst, arith}
use Rattle.hir.specs.declared.environment.Counters.{Counters}
use Rattle.hir.specs.declared.environment.Identifier.{Identifier}
use Rattle.hir.specs.declared.used.Used.{Used}
use Rattle.hir.specs.Encode.{items_words, counters_words, identifier_words, scope_words, block_words}
use Rattle.hir.specs.Limits.{Within, limits}
use Rattle.hir.specs.Sizes.{none, plus, declarations_in, block_size, sizes}
use Rattle.hir.specs.Tree.{Block, ScopeInfo, Function}
use Rattle.format.specs.Parse.{section, counters, every, identifier, scope_info, block}
use Rattle.format.specs.RoundTrip.{SlotsAreCounted, ReadIsWithin}
use Rattle.format.proofs.Took.{Used-is, weaker, nothing}
use Rattle.format.proofs.TookStatements.{block_took}
use Rattle.format.proofs.TookTables.{counters_passed, some_identifiers, identifiers_took, some_scopes, scopes_took}
use Rattle.format.proofs.Sections.{Covers, section_covers, parse_parsed}

-- ---- each section, with its words and its slots
pub counters_cover : (ws : List ℕ) (from to : ℕ) (u : Used) (r : Counters × Used) → section counters ws from to u ≡ Ok r → Covers ws from to u r.1 (counters_words r.0) none
counters_cover = section_covers counters counters_words (λ _. none) (λ c. weaker (counters_passed c) (λ n d t. nothing t))

pub identifiers_cover : (ws : List ℕ) (from to : ℕ) (u : Used) (r : List Identifier × Used) → section (every identifier) ws from to u ≡ Ok r → Covers ws from to u r.1 (items_words identifier_words r.0) (some_identifiers (length r.0))
identifiers_cover = section_covers (every identifier) (items_words identifier_words) (λ is. some_identifiers (length is)) identifiers_took

pub scopes_cover : (ws : List ℕ) (from to : ℕ) (u : Used) (r : List ScopeInfo × Used) → section (every scope_info) ws from to u ≡ Ok r → Covers ws from to u r.1 (items_words scope_words r.0) (some_scopes (length r.0) (declarations_in r.0))
scopes_cover = section_covers (every scope_info) (items_words scope_words) (λ ss. some_scopes (length ss) (declarations_in ss)) scopes_took

pub body_covers : (ws : List ℕ) (from to : ℕ) (u : Used) (r : Block × Used) → section (block 64) ws from to u ≡ Ok r → Covers ws from to u r.1 (block_words r.0) (block_size r.0)
body_covers = section_covers (block 64) block_words block_size (block_took 64)

-- ---- the four of them
pub sum_is_sizes : (F : Function) → plus (plus (plus (plus none none) (some_identifiers (length F.identifiers))) (some_scopes (length F.scopes) (declarations_in F.scopes))) (block_size F.body) ≡ sizes F
unfolding sizes
sum_is_sizes F = Used-is (omega arith) (omega arith) (omega arith) (omega arith) (omega arith) (omega arith) (omega arith)

none_within : Within none limits
none_within = record { statements = omega arith; values = omega arith; places = omega arith; identifiers = omega arith; scopes = omega arith; declarations = omega arith; cases = omega arith }

pub sections_count : SlotsAreCounted
sections_count ws e₁ e₂ e₃ e₄ c i s b hc hi hs hb =
    let kc = counters_cover ws 8 e₁ none c hc in
    let ki = identifiers_cover ws e₁ e₂ c.1 i hi in
    let ks = scopes_cover ws e₂ e₃ i.1 s hs in
    let kb = body_covers ws e₃ e₄ s.1 b hb in
    record {
      slots =
          kb.used
          ∙ ap (λ u. plus u (block_size b.0)) (ks.used ∙ ap (λ u. plus u (some_scopes (length s.0) (declarations_in s.0))) (ki.used ∙ ap (λ u. plus u (some_identifiers (length i.0))) kc.used))
          ∙ sum_is_sizes (record { counters = c.0; identifiers = i.0; scopes = s.0; body = b.0 });
      within = kb.kept (ks.kept (ki.kept (kc.kept none_within)));
    }

pub read_is_within : ReadIsWithin
read_is_within ws F e =
    let p = parse_parsed ws F e in
    let k = sections_count ws p.e₁ p.e₂ p.e₃ p.e₄ (F.counters, p.u₁) (F.identifiers, p.u₂) (F.scopes, p.u₃) (F.body, p.u₄) p.s₁ p.s₂ p.s₃ p.s₄ in
    subst (λ (u : Used). Within u limits) k.slots k.within
