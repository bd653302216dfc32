-- The statements passed over in file order: the first one with a no to each question, and the scopes that were seen. Assumes nothing.
use Rattle.std.specs.Prelude.{ℕ, ◌+◌, ◌%◌, Bool, true, false, cond, not, List, [], ◌∷◌, Some, None, Option, replicate, slice_index_or, slice_set}
use Rattle.questions.specs.declared.line.Findings.{Findings}
use Rattle.questions.specs.declared.line.Line.{Line}

-- what was found earlier, or else n where a test fails
abbrev pub earliest : Option ℕ → Bool → ℕ → Option ℕ
earliest (Some m) well n = Some m
earliest None well n = cond well None (Some n)

-- the scopes seen, as a table of marks
abbrev pub claimed : List Bool → ℕ → List Bool
claimed seen x = slice_set seen x true

abbrev pub unclaimed : List Bool → ℕ → Bool
unclaimed seen x = not (slice_index_or seen x false)

abbrev pub fresh_line : List Bool → Option ℕ → Bool
fresh_line seen None = true
fresh_line seen (Some x) = unclaimed seen x

abbrev pub marked : List Bool → Option ℕ → List Bool
marked seen None = seen
marked seen (Some x) = claimed seen x

-- one statement more; the count is kept in 32 bits
abbrev pub step : Line → Findings → Findings
step l f =
    record {
      next = (f.next + 1) % 4294967296;
      numbers = earliest f.numbers l.numbers f.next;
      shapes = earliest f.shapes l.shapes f.next;
      targets = earliest f.targets l.targets f.next;
      scopes = earliest f.scopes (fresh_line f.seen l.owns) f.next;
      seen = marked f.seen l.owns;
    }

abbrev pub passed : List Line → Findings → Findings
passed [] f = f
passed (l ∷ ls) f = passed ls (step l f)

abbrev pub nothing : Findings
nothing = record { next = 0; numbers = None; shapes = None; targets = None; scopes = None; seen = replicate 256 false }
