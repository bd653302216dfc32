-- A row of slots whose items are written one by one. Assumes nothing.
use Rattle.std.proofs.Common.{◌≡◌, ℕ, ◌+◌, ◌<◌, ◌≤◌, List, [], ◌∷◌, ◌++◌, length, get_or, drop, Option, refl, ap, ◌∙◌, subst, append_assoc, arith}
use Rattle.std.specs.Prelude.{IsSome}
use Rattle.std.proofs.lemmas.List.{drop_more, drop_all}
use Rattle.hir.specs.declared.range.Range.{Range}
use Rattle.hir.specs.Decode.{instr_of, instrs_of, opt_block_of, cases_of, body_of}
use Rattle.hir.specs.Encode.{option_words, place_words, instr_words, instrs_words, opt_block_words, cases_words, stmt_words, body_words}
use Rattle.hir.specs.Tree.{Val, Block, Stmt}
use Rattle.write.specs.declared.writer.Writer.{Writer}
use Rattle.write.specs.Puts.{Room, Wrote, words_in}
use Rattle.write.proofs.Rooms.{room_first}
use Rattle.write.proofs.Left.{Left, left_more, left_end}

-- what the row from item i on stands for is left to write
pub record RowLeft {A X : Type 0} (of : List A → Option X) (words : X → List ℕ) (row : List A) (v w : Writer) (i : ℕ) : Type 0 where
  pub stands : IsSome (of (drop i row))
  pub left : Left v w (words_in words (of row)) (words_in words (of (drop i row)))

-- a row that stands for something is its first item, whose words are `one` and of which Q holds, and the others
pub record RowLaw {A X : Type 0} (of : List A → Option X) (words : X → List ℕ) (one : A → List ℕ) (Q : A → Type 0) : Type 0 where
  pub none : words_in words (of []) ≡ []
  pub more : (x : A) (xs : List A) → IsSome (of (x ∷ xs)) → Q x × IsSome (of xs) × (words_in words (of (x ∷ xs)) ≡ one x ++ words_in words (of xs))

module _ {A X : Type 0} {of : List A → Option X} {words : X → List ℕ} {one : A → List ℕ} {Q : A → Type 0} (law : RowLaw of words one Q) {row : List A} {v w : Writer} {i : ℕ} where
  row_parts : (d : A) → i < length row → RowLeft of words row v w i
      → Q (get_or row i d) × IsSome (of (drop (i + 1) row)) × (words_in words (of (drop i row)) ≡ one (get_or row i d) ++ words_in words (of (drop (i + 1) row)))
  row_parts d h l =
      let cut = drop_more row i d h in
      let p = law.more (get_or row i d) (drop (i + 1) row) (subst (λ r. IsSome (of r)) cut l.stands) in
      (p.0, p.1, ap (λ r. words_in words (of r)) cut ∙ p.2)

  pub row_first : (d : A) → i < length row → RowLeft of words row v w i → Q (get_or row i d) × Room w (one (get_or row i d))
  row_first d h l = let p = row_parts d h l in (p.0, room_first _ _ (subst (Room w) p.2 l.left.room))

  pub row_next : {u : Writer} (d : A) → i < length row → RowLeft of words row v w i → Wrote w u (one (get_or row i d)) → RowLeft of words row v u (i + 1)
  row_next d h l wrote = let p = row_parts d h l in record { stands = p.1; left = left_more l.left p.2 wrote }

  pub row_end : length row ≤ i → RowLeft of words row v w i → Wrote v w (words_in words (of row))
  row_end h l = left_end l.left (ap (λ r. words_in words (of r)) (drop_all i row h) ∙ law.none)

pub instrs_law : (val : ℕ → Option Val) → RowLaw (instrs_of val) instrs_words (λ i. words_in instr_words (instr_of val i)) (λ i. IsSome (instr_of val i))
instrs_law val = record { none = refl; more = λ i is h. grind arith }

pub cases_law : (block : Range → Option Block)
    → RowLaw (cases_of block) cases_words (λ c. option_words place_words c.test ++ words_in opt_block_words (opt_block_of block c.block)) (λ c. IsSome (opt_block_of block c.block))
cases_law block = record { none = refl; more = λ c cs h. grind (arith, append_assoc) }

pub body_law : (slot : ℕ → Option Stmt) → RowLaw (body_of slot) body_words (λ k. words_in stmt_words (slot k)) (λ k. IsSome (slot k))
body_law slot = record { none = refl; more = λ k ks h. grind arith }
