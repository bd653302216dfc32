-- What is shown of a file: the lines of its sections, or the number of the first question that has a no. Assumes nothing.
use Rattle.std.specs.Prelude.{ℕ, List, [], ◌∷◌, Some, None, Ok, Err, Option, Result}
use Rattle.hir.specs.Tree.{Function}
use Rattle.format.specs.Faults.{file_number}
use Rattle.format.specs.Parse.{parse_file}
use Rattle.format.specs.Words.{words}
use Rattle.format.specs.declared.fault.FileFault.{FileFault}
use Rattle.questions.specs.Questions.{out_of_range, out_of_shape, without_target, scoped_twice}
use Rattle.text.specs.Line.{line}
use Rattle.text.specs.Sections.{five_lines}

-- a question by its number, with the places that have a no; and what is asked after it
abbrev pub asked : ℕ → List ℕ → Option ℕ → Option ℕ
asked n [] later = later
asked n (place ∷ more) later = Some n

-- of a function
abbrev pub check_refusal : Function → Option ℕ
check_refusal F = asked 5 (out_of_range F) (asked 6 (out_of_shape F) (asked 7 (without_target F) (asked 8 (scoped_twice F) None)))

abbrev pub refusal_of : Result Function FileFault → Option ℕ
refusal_of (Ok F) = check_refusal F
refusal_of (Err f) = Some (file_number f)

abbrev pub lines_of : Option ℕ → List ℕ → List ℕ
lines_of None ws = five_lines ws
lines_of (Some n) ws = line (n ∷ [])

-- of a file's bytes
abbrev pub shown : List ℕ → List ℕ
shown bs = lines_of (refusal_of (parse_file bs)) (words bs)
