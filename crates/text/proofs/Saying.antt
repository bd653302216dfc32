-- Where a reader stands in a text, and what each character does to that.
-- The words so far, and what is said from here on, are what the text says.
use Rattle.std.proofs.Common.{◌≡◌, ℕ, ◌+◌, ◌<◌, ◌≤◌, true, false, cond, List, [], ◌∷◌, ◌++◌, length, get_or, drop, Some, None, Ok, Err, Option, Result, sym, refl, ap, ◌∙◌, append_assoc, add-one, arith, drop-cons}
use Rattle.std.proofs.lemmas.List.{drop_all}
use Rattle.std.proofs.lemmas.Bool.Decides.{nat_tests}
use Rattle.std.specs.Char.{is_ascii_whitespace}
use Rattle.text.specs.declared.character.Position.{Position}
use Rattle.text.specs.declared.character.Word.{Word}
use Rattle.text.specs.declared.character.TextFault.{TextFault}
use Rattle.text.specs.declared.character.TextFault.TheVariants.{Character}
use Rattle.text.specs.Said.{start, next_of, digit_of, longer_of, ended_of, onto, said_from, said}

pub record Stands (text ws : List ℕ) (word : Option Word) (at : Position) (i : ℕ) : Type 0 where
  pub same : said text ≡ onto ws (said_from word at (drop i text))
  pub line : at.line ≤ i + 1
  pub column : at.column ≤ i + 1

-- what is said from here on, by what a digit makes of the word
abbrev pub goes_longer : Position → List ℕ → Result Word TextFault → Result (List ℕ) TextFault
goes_longer next bs r = elim r [ Ok longer ↦ said_from (Some longer) next bs | Err f ↦ Err f ]

-- by the digit that the first character is
abbrev goes : Option Word → Position → ℕ → List ℕ → Option ℕ → Result (List ℕ) TextFault
goes word at b bs o =
    elim o [
      | Some d ↦ goes_longer (next_of at b) bs (longer_of word at d)
      | None ↦ cond (is_ascii_whitespace b) (onto (ended_of word) (said_from None (next_of at b) bs)) (Err (Character at))
    ]

pub at_digit : (word : Option Word) (at : Position) (b d : ℕ) (bs : List ℕ) (r : Result Word TextFault) → digit_of b ≡ Some d → longer_of word at d ≡ r → said_from word at (b ∷ bs) ≡ goes_longer (next_of at b) bs r
at_digit word at b d bs r e f = ap (goes word at b bs) e ∙ ap (goes_longer (next_of at b) bs) f

pub at_white : (word : Option Word) (at : Position) (b : ℕ) (bs : List ℕ) → digit_of b ≡ None → is_ascii_whitespace b ≡ true → said_from word at (b ∷ bs) ≡ onto (ended_of word) (said_from None (next_of at b) bs)
at_white word at b bs e f = ap (goes word at b bs) e ∙ ap (λ t. cond t (onto (ended_of word) (said_from None (next_of at b) bs)) (Err (Character at))) f

at_other : (word : Option Word) (at : Position) (b : ℕ) (bs : List ℕ) → digit_of b ≡ None → is_ascii_whitespace b ≡ false → said_from word at (b ∷ bs) ≡ Err (Character at)
at_other word at b bs e f = ap (goes word at b bs) e ∙ ap (λ t. cond t (onto (ended_of word) (said_from None (next_of at b) bs)) (Err (Character at))) f

pub onto_none : (r : Result (List ℕ) TextFault) → onto [] r ≡ r
onto_none (Ok vs) = refl
onto_none (Err f) = refl

pub onto_onto : (vs ws : List ℕ) (r : Result (List ℕ) TextFault) → onto vs (onto ws r) ≡ onto (vs ++ ws) r
onto_onto vs ws (Ok us) = ap Ok (sym (append_assoc vs ws us))
onto_onto vs ws (Err f) = refl

-- in the middle of a text
here : (text : List ℕ) (i : ℕ) → i < length text → drop i text ≡ get_or text i 0 ∷ drop (i + 1) text
here text i h = rw (add-one, drop-cons text i 0)

pub stands_first : (text : List ℕ) → Stands text [] None start 0
stands_first text = record { same = sym (onto_none (said text)); line = omega arith; column = omega arith }

next_line : (at : Position) (b i : ℕ) → at.line ≤ i + 1 → (next_of at b).line ≤ (i + 1) + 1
next_line at b i h = grind (arith, nat_tests)

next_column : (at : Position) (b i : ℕ) → at.column ≤ i + 1 → (next_of at b).column ≤ (i + 1) + 1
next_column at b i h = grind (arith, nat_tests)

module _ (text ws : List ℕ) (word : Option Word) (at : Position) (i : ℕ) where
  -- after a digit
  pub stands_digit : (d : ℕ) (longer : Word) → i < length text → digit_of (get_or text i 0) ≡ Some d → longer_of word at d ≡ Ok longer → Stands text ws word at i →
      Stands text ws (Some longer) (next_of at (get_or text i 0)) (i + 1)
  stands_digit d longer h e f w =
      record { same = w.same ∙ ap (onto ws) (ap (said_from word at) (here text i h) ∙ at_digit word at (get_or text i 0) d (drop (i + 1) text) (Ok longer) e f); line = next_line at _ i w.line; column = next_column at _ i w.column }

  -- after white space
  pub stands_white : i < length text → digit_of (get_or text i 0) ≡ None → is_ascii_whitespace (get_or text i 0) ≡ true → Stands text ws word at i →
      Stands text (ws ++ ended_of word) None (next_of at (get_or text i 0)) (i + 1)
  stands_white h e f w =
      record { same = w.same ∙ ap (onto ws) (ap (said_from word at) (here text i h) ∙ at_white word at (get_or text i 0) (drop (i + 1) text) e f) ∙ onto_onto ws (ended_of word) _; line = next_line at _ i w.line; column = next_column at _ i w.column }

  -- at a digit too many
  pub stands_large : (d : ℕ) (fault : TextFault) → i < length text → digit_of (get_or text i 0) ≡ Some d → longer_of word at d ≡ Err fault → Stands text ws word at i → said text ≡ Err fault
  stands_large d fault h e f w = w.same ∙ ap (onto ws) (ap (said_from word at) (here text i h) ∙ at_digit word at (get_or text i 0) d (drop (i + 1) text) (Err fault) e f)

  -- at any other character
  pub stands_other : i < length text → digit_of (get_or text i 0) ≡ None → is_ascii_whitespace (get_or text i 0) ≡ false → Stands text ws word at i → said text ≡ Err (Character at)
  stands_other h e f w = w.same ∙ ap (onto ws) (ap (said_from word at) (here text i h) ∙ at_other word at (get_or text i 0) (drop (i + 1) text) e f)

  -- at the end of the text
  pub stands_last : length text ≤ i → Stands text ws word at i → said text ≡ Ok (ws ++ ended_of word)
  stands_last h w = w.same ∙ ap (λ (bs : List ℕ). onto ws (said_from word at bs)) (drop_all i text h)
