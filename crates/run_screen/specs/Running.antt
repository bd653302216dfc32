-- What is printed for what is asked, a file's bytes and the text of the answers. Assumes nothing.
use Rattle.std.specs.Prelude.{◌≡◌, ℕ, ◌⊎◌, List, [], ◌∷◌, ◌++◌, length, Some, None, Ok, Err, Option, Result as Answer}
use Rattle.format.specs.declared.fault.LoadFault.{LoadFault}
use Rattle.fault.specs.declared.RunFault.{RunFault}
use Rattle.format.specs.Parse.{parse_file}
use Rattle.hir.specs.Tree.{Function}
use Rattle.load.specs.Loads.{Refused}
use Rattle.questions.specs.Answers.{Sound}
use Rattle.run.specs.Runs.{refusal}
use Rattle.screen.specs.Arguments.{Asked}
use Rattle.screen.specs.declared.arguments.HostKind.TheVariants as Host
use Rattle.screen.specs.Refusal.{load_lines, run_lines as fault_lines}
use Rattle.screen.specs.Said.{lines}
use Rattle.screen.specs.Store.{store_of}
use Rattle.semantics.specs.Exec.{exec, ran, last}
use Rattle.semantics.specs.Examples.{number_host, list_host}
use Rattle.semantics.specs.Machine.{Meaning, Result as Part}
use Rattle.semantics.specs.declared.Ran.{Ran}
use Rattle.text.specs.Message.{message}
use Rattle.text.specs.Said.{said}
use Rattle.text.specs.declared.character.TextFault.{TextFault}

-- what a run gave, with the store and the number of answers that it left
abbrev pub ran_lines : Answer Ran RunFault → List ℕ → ℕ → List ℕ
ran_lines (Ok r) σ n = lines r σ n
ran_lines (Err f) σ n = fault_lines f

module _ {S : Type 0} where
  -- why a run is refused, or what comes of it; `rest` says how many answers a host has left
  abbrev pub told_of : (S → ℕ) → Option RunFault → Part S → List ℕ
  told_of rest (Some f) w = fault_lines f
  told_of rest None w = lines (ran w) (last w).store (rest (last w).host)

  abbrev pub run_lines : Meaning S → (S → ℕ) → Function → ℕ → S → List ℕ → List ℕ
  run_lines H rest F B h σ = told_of rest (refusal F B σ) (exec H F B h σ)

abbrev pub none_left : Unit {0} → ℕ
none_left h = 0

abbrev pub number_run : Function → ℕ → List ℕ → List ℕ
number_run F B σ = run_lines number_host none_left F B tt σ

abbrev pub list_run : Function → ℕ → List ℕ → List ℕ → List ℕ
list_run F B σ answers = run_lines list_host length F B answers σ

-- what is asked of a function; its store is long enough
abbrev pub lines_on : Asked → List ℕ → Function → List ℕ → List ℕ
lines_on q answers F σ = elim q.host [ Host.Number ↦ number_run F q.budget σ | Host.List ↦ list_run F q.budget σ answers ]

abbrev pub lines_for : Asked → List ℕ → Function → List ℕ
lines_for q answers F = lines_on q answers F (store_of q.values (length F.identifiers))

pub record Runs (bs : List ℕ) (told : Function → List ℕ) (out : List ℕ) : Type 0 where
  pub function : Function
  pub parsed : parse_file bs ≡ Ok function
  pub sound : Sound function
  pub text : out ≡ told function

pub record Declines (bs : List ℕ) (out : List ℕ) : Type 0 where
  pub fault : LoadFault
  pub refused : Refused bs fault
  pub text : out ≡ load_lines fault

-- the function of a file is told, or why the file is refused
abbrev pub Answers : List ℕ → (Function → List ℕ) → List ℕ → Type 0
Answers bs told out = Runs bs told out ⊎ Declines bs out

abbrev pub message_line : TextFault → List ℕ
message_line f = message f ++ 10 ∷ []

abbrev pub Said : Answer (List ℕ) TextFault → Asked → List ℕ → List ℕ → Type 0
Said (Ok answers) q bs out = Answers bs (lines_for q answers) out
Said (Err f) q bs out = out ≡ message_line f

abbrev pub Screens : Asked → List ℕ → List ℕ → List ℕ → Type 0
Screens q bs text out = Said (said text) q bs out
