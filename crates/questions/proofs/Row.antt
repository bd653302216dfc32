-- A loop over a row of slots: what is left of the row, and what has been passed over.
-- It serves the instructions of a sequence, the statements of a block and the cases of a switch.
use Rattle.std.proofs.Common.{◌≡◌, ℕ, ◌+◌, ◌<◌, ◌≤◌, List, [], ◌∷◌, ◌++◌, length, get_or, drop, Some, Option, sym, ap, ◌∙◌}
use Rattle.std.proofs.lemmas.List.{drop_more, drop_all}
use Rattle.std.proofs.lemmas.Option.{same_Some}
use Rattle.hir.specs.Decode.{Slots}
use Rattle.hir.specs.Options.{bind}
use Rattle.questions.specs.declared.line.Bounds.{Bounds}
use Rattle.questions.specs.declared.line.Line.{Line}
use Rattle.questions.specs.declared.pass.Pass.{Pass}
use Rattle.questions.specs.Findings.{passed}
use Rattle.questions.specs.Own.{Decodes}
use Rattle.questions.specs.Pass.{slots_in, Kept, Passed}
use Rattle.questions.proofs.Passing.{passed_append, kept_then, still}
use Rattle.questions.proofs.Slots.{bound}

-- an entry x stands for `one x`, a row for `many` of it: the items in order, put together by `join`
pub record Rows {X Y Ys : Type 0} (one : X → Option Y) (many : List X → Option Ys) (lines_one : Y → List Line) (lines : Ys → List Line) : Type 0 where
  pub none : Ys
  pub join : X → Y → Ys → Ys
  pub many_none : many [] ≡ Some none
  pub many_more : (x : X) (xs : List X) → many (x ∷ xs) ≡ bind (one x) (λ y. bind (many xs) (λ ys. Some (join x y ys)))
  pub lines_none : lines none ≡ []
  pub lines_more : (x : X) (y : Y) (ys : Ys) → lines (join x y ys) ≡ lines_one y ++ lines ys

-- before the entry i of the row xs, which stands for `whole`
pub record RowLeft {X Ys : Type 0} (many : Slots → List X → Option Ys) (lines : Bounds → Ys → List Line) (whole : Option Ys) (xs : List X) (before now : Pass) (i : ℕ) : Type 0 where
  pub kept : Kept before now
  pub rest : Ys
  pub is : many (slots_in before) (drop i xs) ≡ Some rest
  pub same : (x : Ys) → whole ≡ Some x → passed (lines before.bounds x) before.found ≡ passed (lines before.bounds rest) now.found

module _ {X Y Ys : Type 0} (one : Slots → X → Option Y) (many : Slots → List X → Option Ys) (lines_one : Bounds → Y → List Line) (lines : Bounds → Ys → List Line) (rows : (a : Slots) (B : Bounds) → Rows (one a) (many a) (lines_one B) (lines B)) where
  module _ {whole : Option Ys} {xs : List X} {p q : Pass} {i : ℕ} (d : X) (l : RowLeft many lines whole xs p q i) where
    next_parts : i < length xs → (y : Y) × (ys : Ys) × (one (slots_in p) (get_or xs i d) ≡ Some y) × (many (slots_in p) (drop (i + 1) xs) ≡ Some ys) × ((rows (slots_in p) p.bounds).join (get_or xs i d) y ys ≡ l.rest)
    next_parts h =
        let e = sym (ap (many (slots_in p)) (drop_more xs i d h) ∙ (rows (slots_in p) p.bounds).many_more (get_or xs i d) (drop (i + 1) xs)) ∙ l.is in
        let b = bound (one (slots_in p) (get_or xs i d)) _ l.rest e in
        let c = bound (many (slots_in p) (drop (i + 1) xs)) _ l.rest b.2 in
        (b.0, c.0, b.1, c.1, same_Some _ _ c.2)

    pub row_next : i < length xs → Decodes (one (slots_in q) (get_or xs i d))
    row_next h = let n = next_parts h in record { what = n.0; is = still (λ a. one a (get_or xs i d)) l.kept n.0 n.2 }

    pub row_again : {r : Pass} → i < length xs → Passed (one (slots_in q) (get_or xs i d)) (lines_one q.bounds) q r → RowLeft many lines whole xs p r (i + 1)
    row_again h done =
        let n = next_parts h in
        record {
          kept = kept_then l.kept done.kept;
          rest = n.1;
          is = n.3;
          same = λ x e.
              l.same x e ∙ ap (λ z. passed (lines p.bounds z) q.found) (sym n.4) ∙ ap (λ ls. passed ls q.found) ((rows (slots_in p) p.bounds).lines_more _ n.0 n.1)
              ∙ passed_append (lines_one p.bounds n.0) (lines p.bounds n.1) q.found
              ∙ ap (passed (lines p.bounds n.1)) (sym (done.by n.0 (still (λ a. one a (get_or xs i d)) l.kept n.0 n.2) ∙ ap (λ B. passed (lines_one B n.0) q.found) l.kept.bounds));
        }

  pub row_end : {whole : Option Ys} {xs : List X} {p q : Pass} {i : ℕ} → RowLeft many lines whole xs p q i → length xs ≤ i → Passed whole (lines p.bounds) p q
  row_end {whole} {xs} {p} {q} {i} l h =
      let last : l.rest ≡ (rows (slots_in p) p.bounds).none = same_Some _ _ (sym l.is ∙ ap (many (slots_in p)) (drop_all i xs h) ∙ (rows (slots_in p) p.bounds).many_none) in
      record { kept = l.kept; by = λ x e. sym (l.same x e ∙ ap (λ z. passed (lines p.bounds z) q.found) last ∙ ap (λ ls. passed ls q.found) (rows (slots_in p) p.bounds).lines_none) }
