-- The sections of a file, one after another, and the pairs in front of them. Assumes nothing.
use Rattle.std.proofs.Common.{◌≡◌, ℕ, ◌+◌, ◌-◌, ◌*◌, ◌≤◌, List, [], ◌∷◌, ◌++◌, length, Some, None, vec_items, Option, unwrap_or, sym, refl, ap, ◌∙◌, arith, length-append}
use Rattle.std.specs.Prelude.{IsSome}
use Rattle.hir.specs.declared.tables.Tables.{Tables}
use Rattle.hir.specs.Decode.{root_of}
use Rattle.hir.specs.Encode.{counters_words, identifier_words, scope_words, block_words, items_words, sections, encode}
use Rattle.hir.specs.Held.{held, slots, scopes_from}
use Rattle.hir.specs.Tables.{function_of}
use Rattle.hir.specs.Tree.{Block, nil}
use Rattle.write.specs.declared.writer.Writer.{Writer}
use Rattle.write.specs.Puts.{over, Room, Wrote, words_in}
use Rattle.write.proofs.Lay.{wrote_more, wrote_before}

body_is : (x : Option Block) → IsSome x → words_in block_words x ≡ block_words (unwrap_or x nil)
body_is None h = absurd (cc)
body_is (Some b) h = refl

-- the pairs, from where the sections end
paired : (cs is ss bs : List ℕ) (a b c e : ℕ) → a ≡ 8 + length cs → b ≡ a + length is → c ≡ b + length ss → e ≡ c + length bs
    → (8 ∷ (a - 8) ∷ a ∷ (b - a) ∷ b ∷ (c - b) ∷ c ∷ (e - c) ∷ []) ++ (cs ++ (is ++ (ss ++ bs))) ≡ sections cs is ss bs
paired cs is ss bs a b c e ha hb hc he =
    let p₁ : a - 8 ≡ length cs = omega arith in
    let p₂ : b - a ≡ length is = omega arith in
    let p₃ : b ≡ 8 + length cs + length is = omega arith in
    let p₄ : c - b ≡ length ss = omega arith in
    let p₅ : c ≡ 8 + length cs + length is + length ss = omega arith in
    let p₆ : e - c ≡ length bs = omega arith in
    cc

module _ (t : Tables) where
  abbrev counters : List ℕ
  counters = counters_words t.environment.counters

  abbrev identifiers : List ℕ
  identifiers = items_words identifier_words (vec_items t.environment.identifiers.vec)

  abbrev scopes : List ℕ
  scopes = items_words scope_words (scopes_from 0 (vec_items t.environment.scopes.vec) (vec_items t.environment.declarations.vec))

  abbrev body : List ℕ
  body = words_in block_words (root_of (slots t.arena) t.root)

  -- what stands behind the pairs
  abbrev pub behind : List ℕ
  behind = counters ++ (identifiers ++ (scopes ++ body))

  file_is : sections counters identifiers scopes body ≡ encode (function_of t)
  unfolding encode held
  file_is = ap (sections counters identifiers scopes) (body_is (root_of (slots t.arena) t.root) t.rooted)

  pub behind_room : {v : Writer} → 4 * length (encode (function_of t)) ≤ length v.out.now → v.at ≡ 8 → Room v behind
  behind_room h e = record { fits = omega (arith, h, e, ap length file_is) }

  -- the four are written one after another
  pub record Laid (v w₁ w₂ w₃ w₄ : Writer) : Type 0 where
    pub begins : v.at ≡ 8
    pub first : Wrote v w₁ counters
    pub second : Wrote w₁ w₂ identifiers
    pub third : Wrote w₂ w₃ scopes
    pub last : Wrote w₃ w₄ body

  -- the last ends with the file
  pub whole : {v w₁ w₂ w₃ w₄ : Writer} → Laid v w₁ w₂ w₃ w₄ → w₄.at ≡ t.words
  whole l =
      omega (arith, l.begins, l.first.to, l.second.to, l.third.to, l.last.to, t.measured, ap length file_is, length-append counters (identifiers ++ (scopes ++ body)), length-append identifiers (scopes ++ body), length-append scopes body)

  pub file_laid : {v w₁ w₂ w₃ w₄ u q : Writer} → Laid v w₁ w₂ w₃ w₄ → u.out.now ≡ w₄.out.now → u.at ≡ 0
      → Wrote u q (8 ∷ (w₁.at - 8) ∷ w₁.at ∷ (w₂.at - w₁.at) ∷ w₂.at ∷ (w₃.at - w₂.at) ∷ w₃.at ∷ (t.words - w₃.at) ∷ []) → q.out.now ≡ over v.out.now 0 (encode (function_of t))
  file_laid {v} {w₁} {w₂} {w₃} l same begins r =
      let a : w₁.at ≡ 8 + length counters = omega (arith, l.begins, l.first.to) in
      wrote_before l.begins (wrote_more l.first (wrote_more l.second (wrote_more l.third l.last))) same begins r
      ∙ ap (over v.out.now 0) (paired counters identifiers scopes body w₁.at w₂.at w₃.at t.words a l.second.to l.third.to (sym (whole l) ∙ l.last.to) ∙ file_is)
