-- A line of words: in decimal, with single spaces between them, and a new line at its end. Assumes nothing.
use Rattle.std.specs.Prelude.{ℕ, List, [], ◌∷◌, ◌++◌, decimal}
use Rattle.std.specs.List.{flat_map}

-- each word with a space before it
abbrev pub spaced : List ℕ → List ℕ
spaced ws = flat_map (λ w. 32 ∷ decimal w) ws

abbrev pub between_spaces : List ℕ → List ℕ
between_spaces [] = []
between_spaces (w ∷ ws) = decimal w ++ spaced ws

abbrev pub line : List ℕ → List ℕ
line ws = between_spaces ws ++ 10 ∷ []
