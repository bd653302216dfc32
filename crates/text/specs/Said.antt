-- The words that a text says: decimal numbers with white space between them, or why it says none, and where.
-- Assumes nothing.
use Rattle.std.specs.Prelude.{ℕ, ◌+◌, ◌-◌, ◌*◌, cond, List, [], ◌∷◌, ◌++◌, Some, None, Ok, Err, Option, Result, ◌==◌, nat_le}
use Rattle.std.specs.Char.{is_ascii_digit, is_ascii_whitespace}
use Rattle.text.specs.declared.character.Position.{Position}
use Rattle.text.specs.declared.character.Word.{Word}
use Rattle.text.specs.declared.character.TextFault.{TextFault}
use Rattle.text.specs.declared.character.TextFault.TheVariants.{Character, TooLarge}

abbrev pub start : Position
start = record { line = 1; column = 1 }

-- the position behind a byte: a new line begins after each byte 10
abbrev pub next_of : Position → ℕ → Position
next_of at b = cond (b == 10) (record { line = at.line + 1; column = 1 }) (record { line = at.line; column = at.column + 1 })

abbrev pub digit_of : ℕ → Option ℕ
digit_of b = cond (is_ascii_digit b) (Some (b - 48)) None

-- a digit begins a word, or goes on with one as far as 4,294,967,295
abbrev pub longer_of : Option Word → Position → ℕ → Result Word TextFault
longer_of None at d = Ok (record { value = d; from = at })
longer_of (Some w) at d = cond (nat_le (w.value * 10 + d) 4294967295) (Ok (record { value = w.value * 10 + d; from = w.from })) (Err (TooLarge w.from))

-- the word that white space or the end of the text ends
abbrev pub ended_of : Option Word → List ℕ
ended_of None = []
ended_of (Some w) = w.value ∷ []

-- words, and then what the rest says
abbrev pub onto : List ℕ → Result (List ℕ) TextFault → Result (List ℕ) TextFault
onto ws (Ok vs) = Ok (ws ++ vs)
onto ws (Err f) = Err f

-- white space is tab, new line, form feed, carriage return and space
abbrev pub said_from : Option Word → Position → List ℕ → Result (List ℕ) TextFault
said_from word at [] = Ok (ended_of word)
said_from word at (b ∷ bs) =
    elim (digit_of b) [
      | Some d ↦ elim (longer_of word at d) [ Ok longer ↦ said_from (Some longer) (next_of at b) bs | Err f ↦ Err f ]
      | None ↦ cond (is_ascii_whitespace b) (onto (ended_of word) (said_from None (next_of at b) bs)) (Err (Character at))
    ]

abbrev pub said : List ℕ → Result (List ℕ) TextFault
said text = said_from None start text
