-- What the code asks of the tables is what is asked of the function that they hold.
use Rattle.std.proofs.Common.{◌≡◌, ℕ, ◌≤◌, Bool, true, cond, ◌&&◌, length, is_some, Some, None, vec_items, vec_len, Option, unwrap_or, sym, refl, ap, ◌∙◌, ap₂, arith}
use Rattle.std.specs.List.{list_all}
use Rattle.hir.specs.declared.arena.Arena.{Arena}
use Rattle.hir.specs.declared.environment.Environment.{Environment}
use Rattle.hir.specs.declared.environment.ReactiveScope.{ReactiveScope}
use Rattle.hir.specs.declared.range.Range.{Range}
use Rattle.hir.specs.Decode.{root_of, block_of}
use Rattle.hir.proofs.Deepest.{root_from}
use Rattle.hir.specs.Held.{slots, scopes_from, body_held, held}
use Rattle.hir.specs.Sizes.{sizes, block_size}
use Rattle.hir.specs.Tree.{Block, nil, ScopeInfo}
use Rattle.semantics.specs.Targets.{nowhere}
use Rattle.questions.specs.declared.line.Bounds.{Bounds}
use Rattle.questions.specs.declared.line.Findings.{Findings}
use Rattle.questions.specs.Answers.{Answers, answer_of}
use Rattle.questions.specs.Own.{Decodes}
use Rattle.questions.specs.Findings.{passed, nothing}
use Rattle.questions.specs.Questions.{bounds_of, identifier_in, scope_in, unrecorded, lines, block_lines}
use Rattle.questions.specs.Tables.{bounds_in, tables_in}
use Rattle.questions.proofs.Decided.{tables_sound, decided}
use Rattle.questions.proofs.LinesOf.{owned_in, block_count}
use Rattle.questions.proofs.ScopeLists.{scopes_long, scopes_declared, scopes_recordless}

pub root_some : {X : Type 0} (o : Option X) (d : X) → is_some o ≡ true → o ≡ Some (unwrap_or o d)
root_some None d e = absurd (let z : ◌≡◌ {A = ℕ} 0 1 = ap (λ b. cond b 1 0) e in omega arith)
root_some (Some x) d e = refl

pub root_decodes : (a : Arena) (r : Range) → is_some (root_of (slots a) r) ≡ true → root_of (slots a) r ≡ Some (body_held a r)
root_decodes a r h = root_some (root_of (slots a) r) nil h

abbrev pub block_decodes : (d : ℕ) → d ≡ 64 → (a : Arena) (r : Range) → is_some (root_of (slots a) r) ≡ true → Decodes (block_of d (slots a) r)
block_decodes d deep a r h = record { what = body_held a r; is = ap (λ f. f r) (root_from d deep (slots a)) ∙ root_decodes a r h }

module _ (e : Environment) (a : Arena) (r : Range) where
  bounds_held : bounds_in e ≡ bounds_of (held e a r)
  unfolding held
  bounds_held =
      let i : vec_len e.identifiers.vec ≡ length (vec_items e.identifiers.vec) = omega (arith, e.identifiers.vec.ok.0) in
      let s : vec_len e.scopes.vec ≡ length (vec_items e.scopes.vec) = omega (arith, e.scopes.vec.ok.0) in
      ap₂ (λ m n. record { identifiers = m; scopes = n; blocks = e.counters.blocks; types = e.counters.types; ranges = e.counters.ranges }) i (s ∙ sym (scopes_long 0 (vec_items e.scopes.vec) (vec_items e.declarations.vec)))

  pub tables_held : tables_in (bounds_in e) e ≡ tables_sound (held e a r)
  unfolding held
  tables_held =
      let s : length (vec_items e.scopes.vec) ≡ vec_len e.scopes.vec = omega (arith, e.scopes.vec.ok.0) in
      ap (λ t. list_all (identifier_in (bounds_in e)) (vec_items e.identifiers.vec) && t) (scopes_declared (bounds_in e) (vec_items e.scopes.vec) (vec_items e.declarations.vec) s)
      ∙ ap (λ B. list_all (identifier_in B) (vec_items e.identifiers.vec) && list_all (scope_in B) (scopes_from 0 (vec_items e.scopes.vec) (vec_items e.declarations.vec))) bounds_held

  lines_held : block_lines (bounds_in e) (body_held a r) nowhere ≡ lines (held e a r)
  unfolding held
  lines_held = ap (λ B. block_lines B (body_held a r) nowhere) bounds_held

  few_lines : (sizes (held e a r)).statements ≤ 2048 → (block_size (body_held a r)).statements ≤ 2048
  unfolding held sizes
  few_lines h = omega arith

  records_held : list_all (λ (s : ReactiveScope). unrecorded s.early) (vec_items e.scopes.vec) ≡ list_all (λ (s : ScopeInfo). unrecorded s.early) (held e a r).scopes
  unfolding held
  records_held = scopes_recordless 0 (vec_items e.scopes.vec) (vec_items e.declarations.vec)

  pub check_answers : (d : ℕ) → d ≡ 64 → (f : Findings) (w : Bool) → is_some (root_of (slots a) r) ≡ true → (sizes (held e a r)).statements ≤ 2048 → tables_in (bounds_in e) e ≡ true
      → ((b : Block) → block_of d (slots a) r ≡ Some b → f ≡ passed (block_lines (bounds_in e) b nowhere) nothing)
      → w ≡ list_all (λ (s : ReactiveScope). unrecorded s.early) (vec_items e.scopes.vec)
      → Answers (held e a r) (answer_of f w)
  check_answers d deep f w rooted counted tables pass records =
      let F = held e a r in
      let n = block_count (bounds_in e) (body_held a r) nowhere in
      let b = block_decodes d deep a r rooted in
      let few : length (lines F) ≤ 2048 = omega (arith, ap length lines_held, n.long, few_lines counted) in
      let small : (bounds_of F).scopes ≤ 256 = omega (arith, ap (λ (B : Bounds). B.scopes) bounds_held, e.scopes.within) in
      decided F f w (pass b.what b.is ∙ ap (λ ls. passed ls nothing) lines_held) few small
      (ap₂ (λ B ls. list_all (owned_in B) ls) (sym bounds_held) (sym lines_held) ∙ n.owned) (sym tables_held ∙ tables) (records ∙ records_held)
