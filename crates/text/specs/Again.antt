-- What is promised of the lines that show a file: they say its words again, and those are its bytes. Assumes nothing.
use Rattle.std.specs.Prelude.{◌≡◌, ℕ, ◌<◌, List, Ok}
use Rattle.std.specs.List.{AllByRecursion}
use Rattle.hir.specs.Tree.{Function}
use Rattle.format.specs.Parse.{parse_file}
use Rattle.format.specs.Words.{words, bytes}
use Rattle.text.specs.Said.{said}
use Rattle.text.specs.Sections.{five_lines}

pub record Again (bs : List ℕ) : Type 0 where
  pub read : said (five_lines (words bs)) ≡ Ok (words bs)
  pub packed : bytes (words bs) ≡ bs

-- of every file that can be read
abbrev pub ShownIsReadAgain : Type 0
ShownIsReadAgain = (bs : List ℕ) (F : Function) → AllByRecursion (λ b. b < 256) bs → parse_file bs ≡ Ok F → Again bs
