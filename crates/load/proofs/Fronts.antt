-- The first word of bytes. Assumes nothing.
use Rattle.std.proofs.Common.{◌≡◌, ℕ, ◌+◌, ◌*◌, ◌<◌, ◌≤◌, ltb, List, [], ◌∷◌, length, get_or, drop, Ok, sym, refl, ap, ◌∙◌, arith, le-ltb}
use Rattle.hir.specs.declared.used.Used.{Used}
use Rattle.format.specs.Parse.{next_of}
use Rattle.format.specs.Words.{words}
use Rattle.load.specs.Environments.{none_left}

pub words_none : (bs : List ℕ) → length bs < 4 → words bs ≡ []
words_none [] h = refl
words_none (a ∷ []) h = refl
words_none (a ∷ b ∷ []) h = refl
words_none (a ∷ b ∷ c ∷ []) h = refl
words_none (a ∷ b ∷ c ∷ d ∷ bs) h = absurd (omega arith)

pub words_first : (bs : List ℕ) → 4 ≤ length bs → words bs ≡ (get_or bs 0 0 + get_or bs 1 0 * 256 + get_or bs 2 0 * 65536 + get_or bs 3 0 * 16777216) ∷ words (drop 4 bs)
words_first [] h = absurd (omega arith)
words_first (a ∷ []) h = absurd (omega arith)
words_first (a ∷ b ∷ []) h = absurd (omega arith)
words_first (a ∷ b ∷ c ∷ []) h = absurd (omega arith)
words_first (a ∷ b ∷ c ∷ d ∷ bs) h = refl

pub word_here : (at : ℕ) (u : Used) (bs vs : List ℕ) (w : ℕ) → 4 ≤ length bs → w ≡ get_or bs 0 0 + get_or bs 1 0 * 256 + get_or bs 2 0 * 65536 + get_or bs 3 0 * 16777216 → vs ≡ drop 4 bs → next_of at u (words bs) ≡ Ok (w, record { at = at + 1; rest = words vs; used = u })
word_here at u bs vs w h e r =
    ap (next_of at u) (words_first bs h)
    ∙ ap (λ v. Ok (v, record { at = at + 1; rest = words (drop 4 bs); used = u })) (sym e)
    ∙ ap (λ l. Ok (w, record { at = at + 1; rest = words l; used = u })) (sym r)

-- no word is left where fewer than four bytes are
pub ended_is : (bs : List ℕ) → ltb (length bs) 4 ≡ none_left (words bs)
ended_is [] = refl
ended_is (a ∷ []) = refl
ended_is (a ∷ b ∷ []) = refl
ended_is (a ∷ b ∷ c ∷ []) = refl
ended_is (a ∷ b ∷ c ∷ d ∷ bs) = le-ltb (length (a ∷ b ∷ c ∷ d ∷ bs)) 4 (omega arith)
