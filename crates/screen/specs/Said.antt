-- The lines that tell how a run went. Assumes nothing.
use Rattle.std.specs.Prelude.{ℕ, Bool, cond, List, [], ◌∷◌, ◌++◌, codes, decimal}
use Rattle.semantics.specs.declared.Outcome.{Outcome}
use Rattle.semantics.specs.declared.Ran.{Ran}
use Rattle.semantics.specs.Words.{outcome_words}
use Rattle.text.specs.Line.{spaced}

-- a line that ends in a number
abbrev pub told : List ℕ → ℕ → List ℕ
told what n = what ++ (decimal n ++ 10 ∷ [])

abbrev pub outcome_line : Outcome → List ℕ
outcome_line o = codes "outcome " ++ (outcome_words o ++ 10 ∷ [])

abbrev pub record_line : Bool → List ℕ
record_line recorded = told (codes "record ") (cond recorded 1 0)

-- an empty store is a line with no space
abbrev pub store_line : List ℕ → List ℕ
store_line store = codes "store" ++ (spaced store ++ 10 ∷ [])

abbrev pub lines : Ran → List ℕ → ℕ → List ℕ
lines ran store unused =
    outcome_line ran.outcome ++
    (told (codes "steps ") ran.steps ++
    (told (codes "entries ") ran.entries ++
    (record_line ran.recorded ++
    (store_line store ++
    told (codes "unused ") unused))))
