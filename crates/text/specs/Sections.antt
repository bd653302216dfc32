-- The lines that show a function file: its pairs, and the section that each pair names. Assumes nothing.
use Rattle.std.specs.Prelude.{ℕ, List, ◌++◌, take, drop, slice_index}
use Rattle.text.specs.Line.{line}

-- the section whose offset and length, in words, are the words i and j; of a section past the end, what there is of it
abbrev pub section_of : ℕ → ℕ → List ℕ → List ℕ
section_of i j ws = take (slice_index ws j) (drop (slice_index ws i) ws)

-- pairs, counters, identifiers, scopes and body
abbrev pub five_lines : List ℕ → List ℕ
five_lines ws = line (take 8 ws) ++ (line (section_of 0 1 ws) ++ (line (section_of 2 3 ws) ++ (line (section_of 4 5 ws) ++ line (section_of 6 7 ws))))
