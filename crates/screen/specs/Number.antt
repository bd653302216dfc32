-- A number in decimal: one digit or more, up to 4,294,967,295. Assumes nothing.
use Rattle.std.specs.Prelude.{ℕ, ◌+◌, ◌-◌, ◌*◌, cond, List, [], ◌∷◌, Some, None, Option, nat_le}
use Rattle.std.specs.Char.{is_ascii_digit}

-- a number with one digit more
abbrev pub longer_of : ℕ → ℕ → Option ℕ
longer_of n b = cond (is_ascii_digit b) (cond (nat_le (n * 10 + (b - 48)) 4294967295) (Some (n * 10 + (b - 48))) None) None

-- what the rest of a text makes of what was read
abbrev pub number_from : Option ℕ → List ℕ → Option ℕ
number_from None bs = None
number_from (Some n) [] = Some n
number_from (Some n) (b ∷ bs) = number_from (longer_of n b) bs

abbrev pub number_of : List ℕ → Option ℕ
number_of [] = None
number_of (b ∷ bs) = number_from (Some 0) (b ∷ bs)
