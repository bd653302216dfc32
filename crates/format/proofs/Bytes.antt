-- Bytes hold words: four to a word, and back. Assumes nothing.
use Rattle.std.proofs.Common.{◌≡◌, ℕ, ◌+◌, ◌*◌, ◌/◌, ◌%◌, ◌<◌, ◌≤◌, eqb, leb, List, [], ◌∷◌, length, Ok, refl, ap, ◌∙◌, arith, eqb-true, leb-true}
use Rattle.std.specs.List.{AllByRecursion}
use Rattle.hir.specs.Encode.{encode}
use Rattle.hir.specs.Tree.{Function}
use Rattle.format.specs.declared.fault.FileFault.TheVariants.{Length}
use Rattle.format.specs.Parse.{parse, parse_file}
use Rattle.format.specs.RoundTrip.{BytesComeBack}
use Rattle.format.specs.Words.{words, bytes}
use Rattle.format.proofs.Sections.{cond_true}
use Rattle.format.proofs.Undone.{words_come_back}

pub words_length : (bs : List ℕ) → length (words bs) ≡ length bs / 4
words_length [] = refl
words_length (a ∷ []) = refl
words_length (a ∷ b ∷ []) = refl
words_length (a ∷ b ∷ c ∷ []) = refl
words_length (a ∷ b ∷ c ∷ d ∷ bs) = omega (arith, words_length bs)

pub bytes_length : (ws : List ℕ) → length (bytes ws) ≡ length ws * 4
bytes_length [] = refl
bytes_length (w ∷ ws) = omega (arith, bytes_length ws)

low : (b n : ℕ) → b < 256 → (b + n * 256) % 256 ≡ b
low b n h = omega arith

-- whole words of bytes give their bytes back
pub bytes_words : (bs : List ℕ) → AllByRecursion (λ b. b < 256) bs → length bs % 4 ≡ 0 → bytes (words bs) ≡ bs
bytes_words [] h e = refl
bytes_words (a ∷ []) h e = absurd (omega arith)
bytes_words (a ∷ b ∷ []) h e = absurd (omega arith)
bytes_words (a ∷ b ∷ c ∷ []) h e = absurd (omega arith)
bytes_words (a ∷ b ∷ c ∷ d ∷ bs) h e =
    let ha : a < 256 = h.0 in
    let hb : b < 256 = h.1.0 in
    let hc : c < 256 = h.1.1.0 in
    let hd : d < 256 = h.1.1.1.0 in
    let w : ℕ = a + b * 256 + c * 65536 + d * 16777216 in
    let w₁ : w / 256 ≡ b + (c + d * 256) * 256 = omega arith in
    let w₂ : w / 65536 ≡ c + d * 256 = omega arith in
    let w₃ : w / 16777216 ≡ d + 0 * 256 = omega arith in
    let p : w % 256 ≡ a = omega arith in
    let q : w / 256 % 256 ≡ b = ap (λ n. n % 256) w₁ ∙ low b (c + d * 256) hb in
    let r : w / 65536 % 256 ≡ c = ap (λ n. n % 256) w₂ ∙ low c d hc in
    let s : w / 16777216 % 256 ≡ d = ap (λ n. n % 256) w₃ ∙ low d 0 hd in
    let t = bytes_words bs h.1.1.1.1 (omega arith) in
    λ k. p k ∷ q k ∷ r k ∷ s k ∷ t k

-- words of 32 bits give their words back
pub words_bytes : (ws : List ℕ) → AllByRecursion (λ w. w < 4294967296) ws → words (bytes ws) ≡ ws
words_bytes [] h = refl
words_bytes (w ∷ ws) h =
    let hw : w < 4294967296 = h.0 in
    let w₁ : w ≡ w % 256 + (w / 256) * 256 = omega arith in
    let w₂ : w / 256 ≡ w / 256 % 256 + (w / 65536) * 256 = omega arith in
    let w₃ : w / 65536 ≡ w / 65536 % 256 + (w / 16777216) * 256 = omega arith in
    let w₄ : w / 16777216 % 256 ≡ w / 16777216 = omega arith in
    let p : (w % 256) + (w / 256 % 256) * 256 + (w / 65536 % 256) * 65536 + (w / 16777216 % 256) * 16777216 ≡ w = omega arith in
    let t = words_bytes ws h.1 in
    λ k. p k ∷ t k

-- a file that is read has whole words, and its words are read
pub record Whole (bs : List ℕ) (F : Function) : Type 0 where
  pub even : length bs % 4 ≡ 0
  pub least : 48 ≤ length bs
  pub most : length bs ≤ 65536
  pub reads : parse (words bs) ≡ Ok F

pub file_whole : (bs : List ℕ) (F : Function) → parse_file bs ≡ Ok F → Whole bs F
unfolding parse_file
file_whole bs F e =
    let a = cond_true (eqb (length bs % 4) 0) _ _ F Length refl e in
    let b = cond_true (leb 48 (length bs)) _ _ F Length refl a.1 in
    let c = cond_true (leb (length bs) 65536) _ _ F Length refl b.1 in
    record { even = eqb-true _ _ a.0; least = leb-true _ _ b.0; most = leb-true _ _ c.0; reads = c.1 }

pub bytes_come_back : BytesComeBack
bytes_come_back bs F h e =
    let w = file_whole bs F e in
    ap bytes (words_come_back (words bs) F w.reads) ∙ bytes_words bs h w.even

-- as many words as a quarter of its bytes
pub as_long_as_its_bytes : (bs : List ℕ) (F : Function) → parse_file bs ≡ Ok F → length (encode F) ≡ length bs / 4
as_long_as_its_bytes bs F e = ap length (words_come_back (words bs) F (file_whole bs F e).reads) ∙ words_length bs
