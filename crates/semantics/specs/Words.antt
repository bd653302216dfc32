-- An outcome in words. Assumes nothing.
use Rattle.std.specs.Prelude.{ℕ, List, ◌++◌, codes, decimal}
use Rattle.semantics.specs.declared.Outcome.{Outcome}
use Rattle.semantics.specs.declared.Outcome.TheVariants.{Returned, Thrown, Ended, Spent}

abbrev pub outcome_words : Outcome → List ℕ
outcome_words (Returned v) = codes "returned " ++ decimal v
outcome_words (Thrown v) = codes "thrown " ++ decimal v
outcome_words Ended = codes "ended"
outcome_words Spent = codes "spent"
