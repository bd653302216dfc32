-- What a load answers, and what it leaves. Assumes nothing.
use Rattle.std.specs.Prelude.{◌≡◌, ℕ, ◌≤◌, List, length, Ok, Err, Result, MatchResult}
use Rattle.hir.specs.declared.arena.Arena.{Arena}
use Rattle.hir.specs.declared.environment.Environment.{Environment}
use Rattle.hir.specs.declared.range.Range.{Range}
use Rattle.hir.specs.declared.settled.Settled.{Settled}
use Rattle.hir.specs.declared.tables.Tables.{Tables}
use Rattle.hir.specs.declared.used.Used.{Used}
use Rattle.hir.specs.Held.{held}
use Rattle.hir.specs.Sizes.{sizes, none}
use Rattle.hir.specs.Tables.{function_of}
use Rattle.hir.specs.Tree.{Function, empty}
use Rattle.format.specs.declared.fault.LoadFault.{LoadFault}
use Rattle.format.specs.declared.fault.LoadFault.TheVariants.{File, Check}
use Rattle.format.specs.Parse.{parse_file}
use Rattle.format.specs.Words.{words}
use Rattle.questions.specs.Answers.{Sound, Faulty}
use Rattle.load.specs.Files.{FileIn}

-- the tables hold the function of the file, which is sound, with exactly its slots used
pub record Loaded (bs : List ℕ) (t : Tables) : Type 0 where
  pub parsed : parse_file bs ≡ Ok (function_of t)
  pub sound : Sound (function_of t)
  pub counted : t.used ≡ sizes (function_of t)

-- the file is not read, or a function that is read has the fault
abbrev pub Refused : List ℕ → LoadFault → Type 0
Refused bs (File f) = parse_file bs ≡ Err f
Refused bs (Check f) = (F : Function) × (parse_file bs ≡ Ok F) × Faulty F f

pub record Emptied (t : Tables) : Type 0 where
  pub function : function_of t ≡ empty
  pub used : t.used ≡ none

abbrev pub Loads : List ℕ → Tables → Result Settled LoadFault → Type 0
Loads bs t r = MatchResult r (λ _. Loaded bs t) (λ e. Refused bs e × Emptied t)

-- the same of the parts of tables, before they are put together
pub record PartsIn (e : Environment) (a : Arena) (bs : List ℕ) (root : Range) (used : Used) : Type 0 where
  pub parsed : parse_file bs ≡ Ok (held e a root)
  pub file : FileIn e a (words bs) root used
  pub sound : Sound (held e a root)
  pub near : length bs ≤ 65536
