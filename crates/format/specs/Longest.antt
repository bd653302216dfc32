-- How long a file can be. Assumes nothing.
use Rattle.std.specs.Prelude.{ℕ, ◌+◌, ◌*◌, ◌≤◌, length}
use Rattle.hir.specs.declared.used.Used.{Used}
use Rattle.hir.specs.Encode.{encode}
use Rattle.hir.specs.Limits.{Within, limits}
use Rattle.hir.specs.Sizes.{sizes}
use Rattle.hir.specs.Tree.{Function}

-- the most words of its own that each item has: a `Try` with a label, an operation, a place, an identifier with name and
-- scope, a scope with a record, a declaration, a switch case with a block
abbrev pub most_words : Used → ℕ
most_words u = 9 * u.statements + 6 * u.values + 4 * u.places + 9 * u.identifiers + 5 * u.scopes + 3 * u.declarations + 3 * u.cases

-- the pairs, the counters and the body's count take 12 words
abbrev pub WordsAreBounded : Type 0
WordsAreBounded = (F : Function) → length (encode F) ≤ 12 + most_words (sizes F)

-- so no function that the tables hold has a file of more than 341,040 bytes
abbrev pub BytesAreBounded : Type 0
BytesAreBounded = (F : Function) → Within (sizes F) limits → length (encode F) * 4 ≤ 341040
