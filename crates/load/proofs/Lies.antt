-- Words of a part of the bytes, where the part begins and ends with a word. Assumes nothing.
use Rattle.std.proofs.Common.{◌≡◌, ℕ, zero, suc, ◌+◌, ◌-◌, ◌*◌, ◌/◌, ◌<◌, ◌≤◌, true, false, cond, List, [], ◌∷◌, length, get_or, take, drop, Err, refl, ap, ◌∙◌, arith, length-drop, length-take-le, w32}
use Rattle.std.specs.Int.{from_le_bytes}
use Rattle.std.specs.Simd.{first_chunks}
use Rattle.hir.specs.declared.used.Used.{Used}
use Rattle.format.specs.declared.fault.FileFault.TheVariants.{Reading}
use Rattle.format.specs.Parse.{to_end}
use Rattle.format.specs.Words.{words}
use Rattle.load.specs.Environments.{none_left}

four : (k : ℕ) → suc k * 4 ≡ suc (suc (suc (suc (k * 4))))
four k = omega arith

pub words_drop : (k : ℕ) (bs : List ℕ) → k * 4 ≤ length bs → words (drop (k * 4) bs) ≡ drop k (words bs)
words_drop zero bs h = ap (λ n. words (drop n bs)) (let z : zero * 4 ≡ 0 = omega arith in z)
words_drop (suc k) [] h = absurd (omega (arith, four k))
words_drop (suc k) (a ∷ []) h = absurd (omega (arith, four k))
words_drop (suc k) (a ∷ b ∷ []) h = absurd (omega (arith, four k))
words_drop (suc k) (a ∷ b ∷ c ∷ []) h = absurd (omega (arith, four k))
words_drop (suc k) (a ∷ b ∷ c ∷ d ∷ bs) h = ap (λ n. words (drop n (a ∷ b ∷ c ∷ d ∷ bs))) (four k) ∙ words_drop k bs (omega (arith, four k))

words_take : (k : ℕ) (bs : List ℕ) → k * 4 ≤ length bs → words (take (k * 4) bs) ≡ take k (words bs)
words_take zero bs h = ap (λ n. words (take n bs)) (let z : zero * 4 ≡ 0 = omega arith in z)
words_take (suc k) [] h = absurd (omega (arith, four k))
words_take (suc k) (a ∷ []) h = absurd (omega (arith, four k))
words_take (suc k) (a ∷ b ∷ []) h = absurd (omega (arith, four k))
words_take (suc k) (a ∷ b ∷ c ∷ []) h = absurd (omega (arith, four k))
words_take (suc k) (a ∷ b ∷ c ∷ d ∷ bs) h = ap (λ n. words (take n (a ∷ b ∷ c ∷ d ∷ bs))) (four k) ∙ ap (λ l. (a + b * 256 + c * 65536 + d * 16777216) ∷ l) (words_take k bs (omega (arith, four k)))

pub words_part : (from to : ℕ) (bs : List ℕ) → from ≤ to → to * 4 ≤ length bs → words (take (to * 4 - from * 4) (drop (from * 4) bs)) ≡ take (to - from) (drop from (words bs))
words_part from to bs h k =
    ap (λ n. words (take n (drop (from * 4) bs))) (let e : to * 4 - from * 4 ≡ (to - from) * 4 = omega arith in e)
    ∙ words_take (to - from) (drop (from * 4) bs) (omega (arith, length-drop (from * 4) bs))
    ∙ ap (take (to - from)) (words_drop from bs (omega arith))

pub quad_at : (n k : ℕ) (bs : List ℕ) → k < n → n * 4 ≤ length bs → from_le_bytes w32 (get_or (first_chunks 4 n bs) k []) ≡ get_or (words bs) k 0
quad_at zero k bs h l = absurd (omega arith)
quad_at (suc n) k [] h l = absurd (omega (arith, four n))
quad_at (suc n) k (a ∷ []) h l = absurd (omega (arith, four n))
quad_at (suc n) k (a ∷ b ∷ []) h l = absurd (omega (arith, four n))
quad_at (suc n) k (a ∷ b ∷ c ∷ []) h l = absurd (omega (arith, four n))
quad_at (suc n) zero (a ∷ b ∷ c ∷ d ∷ bs) h l = refl
quad_at (suc n) (suc k) (a ∷ b ∷ c ∷ d ∷ bs) h l = quad_at n k bs (omega arith) (omega (arith, four n))

pub words_length : (bs : List ℕ) → length (words bs) ≡ length bs / 4
words_length [] = refl
words_length (a ∷ []) = refl
words_length (a ∷ b ∷ []) = refl
words_length (a ∷ b ∷ c ∷ []) = refl
words_length (a ∷ b ∷ c ∷ d ∷ bs) = omega (arith, words_length bs)

pub part_near : (from to : ℕ) (bs : List ℕ) → from ≤ to → to * 4 ≤ length bs → to ≤ 16384 → from + length (words (take (to * 4 - from * 4) (drop (from * 4) bs))) ≤ 16384
part_near from to bs h k n =
    omega (arith, ap length (words_part from to bs h k), length-take-le (to - from) (drop from (words bs)) (omega (arith, length-drop from (words bs), words_length bs)))

-- a part that ends within the words lies within the bytes
pub inside : (to : ℕ) (bs : List ℕ) → to ≤ length (words bs) → to * 4 ≤ length bs
inside to bs h = omega (arith, words_length bs)

pub near : (to : ℕ) (bs : List ℕ) → to ≤ length (words bs) → length bs ≤ 65536 → to ≤ 16384
near to bs h k = omega (arith, words_length bs)

pub none_none : (ws : List ℕ) → none_left ws ≡ true → ws ≡ []
none_none [] h = refl
none_none (w ∷ ws) h = absurd (let z : ◌≡◌ {A = ℕ} 0 1 = ap (λ b. cond b 1 0) h in omega arith)

pub some_refused : (at : ℕ) (u : Used) (ws : List ℕ) → none_left ws ≡ false → to_end {X = Unit {0}} (tt {0}) at u ws ≡ Err (Reading at)
some_refused at u [] h = absurd (let z : ◌≡◌ {A = ℕ} 0 1 = ap (λ b. cond b 0 1) h in omega arith)
some_refused at u (w ∷ ws) h = refl
