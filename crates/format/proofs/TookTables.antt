-- What the reading of the tables takes: their words and their slots. Assumes nothing.
use Rattle.std.proofs.Common.{◌≡◌, ℕ, List, [], ◌∷◌, length, refl, ap, ◌∙◌, arith}
use Rattle.hir.specs.declared.environment.Identifier.{Identifier}
use Rattle.hir.specs.declared.environment.ReactiveScopeDeclaration.{ReactiveScopeDeclaration}
use Rattle.hir.specs.declared.used.Used.{Used}
use Rattle.hir.specs.Encode.{word as one_word, name_words, identifier_words, early_words, declaration_words, scope_words, counters_words, items_words}
use Rattle.hir.specs.Sizes.{plus, declarations_in}
use Rattle.hir.specs.Tree.{ScopeInfo}
use Rattle.format.specs.Parse.{Cursor, case, names, identifier, early_read, declaration, scope_info, every, counters}
use Rattle.format.proofs.Took.{Used-is, Took, Passed, Comes, after, weaker, given, both, ends, on, then, sized, word_passed, case_comes, order_passed, option_passed, items_size, listed_took, every_took}
use Rattle.format.proofs.Begun.{one_identifier, one_scope, one_declaration, identifier_began, scope_began, declaration_began}

name_passed : (c : Cursor) → Comes (case names c) (λ n d. Passed c d (name_words n))
name_passed c =
    case_comes names c (λ d. (λ t. after (word_passed d) (λ n e u. given (on t u)), (λ t. after (word_passed d) (λ n e u. given (on t u)), tt)))

identifier_took : (c : Cursor) → Comes (identifier c) (λ i d. Took c d (identifier_words i) one_identifier)
unfolding identifier
identifier_took c =
    after (identifier_began c) (λ _ c₁ t. after (word_passed c₁) (λ d c₂ t₁. after (option_passed name_passed c₂) (λ n c₃ t₂. after (word_passed c₃) (λ r c₄ t₃. after (option_passed {w = one_word} word_passed c₄) (λ s c₅ t₄. after (word_passed c₅) (λ k c₆ t₅. after (word_passed c₆) (λ p c₇ t₆.
    given (ends t (on t₁ (on t₂ (on t₃ (on t₄ (on t₅ t₆)))))))))))))

early_passed : (c : Cursor) → Comes (early_read c) (λ r d. Passed c d (early_words r))
early_passed c = after (word_passed c) (λ v c₁ t₁. after (word_passed c₁) (λ s c₂ t₂. after (word_passed c₂) (λ l c₃ t₃. given (on t₁ (on t₂ t₃)))))

declaration_took : (c : Cursor) → Comes (declaration c) (λ x d. Took c d (declaration_words x) one_declaration)
unfolding declaration
declaration_took c =
    after (declaration_began c) (λ _ c₁ t. after (word_passed c₁) (λ k c₂ t₁. after (word_passed c₂) (λ i c₃ t₂. after (word_passed c₃) (λ s c₄ t₃.
    given (ends t (on t₁ (on t₂ t₃)))))))

-- identifiers alone, declarations alone, scopes with their declarations
abbrev pub some_identifiers : ℕ → Used
some_identifiers n = record { statements = 0; values = 0; places = 0; identifiers = n; scopes = 0; declarations = 0; cases = 0 }

abbrev pub some_scopes : ℕ → ℕ → Used
some_scopes n m = record { statements = 0; values = 0; places = 0; identifiers = 0; scopes = n; declarations = m; cases = 0 }

declarations_size : (ds : List ReactiveScopeDeclaration) → items_size (λ _. one_declaration) ds ≡ some_scopes 0 (length ds)
declarations_size [] = refl
declarations_size (d ∷ ds) = ap (plus one_declaration) (declarations_size ds) ∙ Used-is refl refl refl refl refl (omega arith) refl

pub one_scope_size : (ds : List ReactiveScopeDeclaration) → plus one_scope (items_size (λ _. one_declaration) ds) ≡ some_scopes 1 (length ds)
one_scope_size ds = ap (plus one_scope) (declarations_size ds) ∙ Used-is refl refl refl refl refl (omega arith) refl

scope_took : (c : Cursor) → Comes (scope_info c) (λ s d. Took c d (scope_words s) (some_scopes 1 (length s.declarations)))
unfolding scope_info
scope_took c =
    after (scope_began c) (λ _ c₁ t. after (option_passed early_passed c₁) (λ r c₂ t₁. after (listed_took declaration_took c₂) (λ ds c₃ t₂.
    given (sized (one_scope_size ds) (both t (then t₁ t₂))))))

-- ---- whole sections
pub counters_passed : (c : Cursor) → Comes (counters c) (λ n d. Passed c d (counters_words n))
unfolding counters
counters_passed c = after (order_passed c) (λ b c₁ t₁. after (order_passed c₁) (λ t c₂ t₂. after (order_passed c₂) (λ r c₃ t₃. given (on t₁ (on t₂ t₃)))))

pub identifiers_size : (is : List Identifier) → items_size (λ _. one_identifier) is ≡ some_identifiers (length is)
identifiers_size [] = refl
identifiers_size (i ∷ is) = ap (plus one_identifier) (identifiers_size is) ∙ Used-is refl refl refl (omega arith) refl refl refl

pub identifiers_took : (c : Cursor) → Comes (every identifier c) (λ is d. Took c d (items_words identifier_words is) (some_identifiers (length is)))
identifiers_took c = weaker (every_took identifier_took (length c.rest) c.rest c) (λ is d t. sized (identifiers_size is) t)

pub scopes_size : (ss : List ScopeInfo) → items_size (λ s. some_scopes 1 (length s.declarations)) ss ≡ some_scopes (length ss) (declarations_in ss)
scopes_size [] = refl
scopes_size (s ∷ ss) = ap (plus (some_scopes 1 (length s.declarations))) (scopes_size ss) ∙ Used-is refl refl refl refl (omega arith) refl refl

pub scopes_took : (c : Cursor) → Comes (every scope_info c) (λ ss d. Took c d (items_words scope_words ss) (some_scopes (length ss) (declarations_in ss)))
scopes_took c = weaker (every_took scope_took (length c.rest) c.rest c) (λ ss d t. sized (scopes_size ss) t)
