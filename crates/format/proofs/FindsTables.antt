-- The items of the tables are found where their words stand, and to the section's end. Assumes nothing.
use Rattle.std.proofs.Common.{◌≡◌, ℕ, zero, suc, ◌≤◌, List, [], ◌∷◌, ◌++◌, length, sym, refl, ap, ◌∙◌, arith, length-append}
use Rattle.hir.specs.declared.environment.Counters.{Counters}
use Rattle.hir.specs.declared.environment.Identifier.{Identifier}
use Rattle.hir.specs.declared.environment.IdentifierName.{IdentifierName}
use Rattle.hir.specs.declared.environment.IdentifierName.TheVariants.{Named, Promoted}
use Rattle.hir.specs.declared.environment.ReactiveScopeDeclaration.{ReactiveScopeDeclaration}
use Rattle.hir.specs.declared.environment.ReactiveScopeEarlyReturn.{ReactiveScopeEarlyReturn}
use Rattle.hir.specs.declared.used.Used.{Used}
use Rattle.hir.specs.Encode.{word as one_word, option_words, list_words, items_words, name_words, identifier_words, early_words, declaration_words, scope_words, counters_words}
use Rattle.hir.specs.Sizes.{declarations_in}
use Rattle.hir.specs.Tree.{ScopeInfo}
use Rattle.format.specs.Readable.{Order}
use Rattle.format.specs.Parse.{Cursor, Read, word, case, names, identifier, early_read, declaration, scope_info, until_end, every, counters}
use Rattle.format.proofs.Took.{items_size}
use Rattle.format.proofs.Begun.{one_identifier, one_declaration}
use Rattle.format.proofs.TookTables.{some_identifiers, some_scopes, identifiers_size, scopes_size, one_scope_size}
use Rattle.format.proofs.Finds.{Faces, Shows, Finds, Sees, both, then, ends, on, made, formed, plain, nothing, given, faces_sized, finds_sized, word_sees, order_sees, case_sees, option_sees, listed_finds}
use Rattle.format.proofs.Begins.{identifier_begins, scope_begins, declaration_begins}

name_sees : (n : IdentifierName) (c : Cursor) (vs : List ℕ) → Shows c (name_words n) vs → Sees (case names c) n c vs
name_sees (Named n) c vs h = case_sees names 0 refl h (λ d f. formed _ (word_sees f) (λ e. refl))
name_sees (Promoted n) c vs h = case_sees names 1 refl h (λ d f. formed _ (word_sees f) (λ e. refl))

identifier_finds : (i : Identifier) (c : Cursor) (vs : List ℕ) → Faces c (identifier_words i) vs one_identifier → Finds (identifier c) i c vs one_identifier
unfolding identifier
identifier_finds i c vs h =
    ends _ [] h identifier_begins (λ d f. on _ (i.declaration ∷ []) f word_sees (λ d f. on _ (option_words name_words i.name) f (option_sees (case names) name_words name_sees i.name _ _) (λ d f. on _ (i.range ∷ []) f word_sees (λ d f. on _ (option_words one_word i.scope) f (option_sees word one_word (λ x c vs. word_sees) i.scope _ _) (λ d f. on _ (i.kind ∷ []) f word_sees (λ d f.
    formed _ (word_sees f) (λ e. refl)))))))

early_sees : (r : ReactiveScopeEarlyReturn) (c : Cursor) (vs : List ℕ) → Shows c (early_words r) vs → Sees (early_read c) r c vs
early_sees r c vs h = on _ (r.value ∷ []) h word_sees (λ d f. on _ (r.span ∷ []) f word_sees (λ d f. formed _ (word_sees f) (λ e. refl)))

declaration_finds : (x : ReactiveScopeDeclaration) (c : Cursor) (vs : List ℕ) → Faces c (declaration_words x) vs one_declaration → Finds (declaration c) x c vs one_declaration
unfolding declaration
declaration_finds x c vs h =
    ends _ [] h declaration_begins (λ d f. on _ (x.key ∷ []) f word_sees (λ d f. on _ (x.identifier ∷ []) f word_sees (λ d f.
    formed _ (word_sees f) (λ e. refl))))

scope_finds : (s : ScopeInfo) (c : Cursor) (vs : List ℕ) → Faces c (scope_words s) vs (some_scopes 1 (length s.declarations)) → Finds (scope_info c) s c vs (some_scopes 1 (length s.declarations))
unfolding scope_info
scope_finds s c vs h =
    finds_sized (one_scope_size s.declarations)
    (both _ [] (faces_sized (sym (one_scope_size s.declarations)) h) scope_begins (λ d f. then _ (option_words early_words s.early) f (option_sees early_read early_words early_sees s.early _ _) (λ d f.
    made _ (listed_finds declaration declaration_words (λ _. one_declaration) declaration_finds s.declarations _ _ f) (λ e. refl))))

pub counters_sees : (n : Counters) → Order n.blocks → Order n.types → Order n.ranges → (c : Cursor) (vs : List ℕ) → Shows c (counters_words n) vs → Sees (counters c) n c vs
unfolding counters
counters_sees n b t r c vs h = on _ (n.blocks ∷ []) h (order_sees b) (λ d f. on _ (n.types ∷ []) f (order_sees t) (λ d f. formed _ (order_sees r f) (λ e. refl)))

-- ---- items to the end of the section, each of a word at least
module _ {X : Type 0} (p : Cursor → Read X) (w : X → List ℕ) (s : X → Used) (find : (x : X) (c : Cursor) (vs : List ℕ) → Faces c (w x) vs (s x) → Finds (p c) x c vs (s x)) (some : (x : X) → 1 ≤ length (w x)) where
  until_finds : (xs : List X) (n : ℕ) (ws : List ℕ) (c : Cursor) → ws ≡ c.rest → length ws ≤ n → Faces c (items_words w xs) [] (items_size s xs) → Finds (until_end p n ws c) xs c [] (items_size s xs)
  until_finds [] n [] c e l h = nothing (given (plain h))
  until_finds [] n (v ∷ vs) c e l h = absurd (omega (arith, ap length (e ∙ h.rest)))
  until_finds (x ∷ xs) n [] c e l h =
      absurd (omega (arith, ap length (e ∙ h.rest), length-append (w x ++ items_words w xs) [], length-append (w x) (items_words w xs), some x))
  until_finds (x ∷ xs) zero (v ∷ vs) c e l h = absurd (omega arith)
  until_finds (x ∷ xs) (suc n) (v ∷ vs) c e l h =
      both _ (w x) h (find x _ _) (λ d f.
      made _ (until_finds xs n d.rest d refl
      (omega (arith, ap length f.rest, length-append (items_words w xs) [], ap length (e ∙ h.rest), length-append (w x ++ items_words w xs) [], length-append (w x) (items_words w xs), some x)) f) (λ e. refl))

  every_finds : (xs : List X) (c : Cursor) → Faces c (items_words w xs) [] (items_size s xs) → Finds (every p c) xs c [] (items_size s xs)
  every_finds xs c h = until_finds xs (length c.rest) c.rest c refl (omega arith) h

pub identifiers_find : (is : List Identifier) (c : Cursor) → Faces c (items_words identifier_words is) [] (some_identifiers (length is)) → Finds (every identifier c) is c [] (some_identifiers (length is))
identifiers_find is c h =
    finds_sized (identifiers_size is) (every_finds identifier identifier_words (λ _. one_identifier) identifier_finds (λ i. omega arith) is c (faces_sized (sym (identifiers_size is)) h))

pub scopes_find : (ss : List ScopeInfo) (c : Cursor) → Faces c (items_words scope_words ss) [] (some_scopes (length ss) (declarations_in ss)) → Finds (every scope_info c) ss c [] (some_scopes (length ss) (declarations_in ss))
scopes_find ss c h =
    finds_sized (scopes_size ss) (every_finds scope_info scope_words (λ s. some_scopes 1 (length s.declarations)) scope_finds (λ s. omega (arith, length-append (option_words early_words s.early) (list_words declaration_words s.declarations))) ss c (faces_sized (sym (scopes_size ss)) h))
