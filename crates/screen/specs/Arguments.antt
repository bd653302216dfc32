-- Which words behind the program's name are right, and what they ask. Assumes nothing.
use Rattle.std.specs.Prelude.{◌≡◌, ℕ, cond, List, [], ◌∷◌, Some, None, Ok, Err, vec_items, string_bytes, codes, Option, Result, Vec}
use Rattle.std.specs.Str.{bytes_eq}
use Rattle.std.specs.declared.alloc.Global.{Global}
use Rattle.screen.specs.Number.{number_of}
use Rattle.screen.specs.declared.arguments.HostKind.{HostKind}
use Rattle.screen.specs.declared.arguments.HostKind.TheVariants as Host
use Rattle.screen.specs.declared.arguments.ArgumentFault.{ArgumentFault}
use Rattle.screen.specs.declared.arguments.ArgumentFault.TheVariants.{Usage, Memory}
use Rattle.screen.specs.declared.arguments.Request.{Request}

-- the number host or the list host, a file's name, a budget and the store's first values
pub record Asked : Type 0 where
  pub host : HostKind
  pub file : List ℕ
  pub budget : ℕ
  pub values : List ℕ

abbrev pub onto : Option ℕ → Option (List ℕ) → Option (List ℕ)
onto None vs = None
onto (Some v) None = None
onto (Some v) (Some vs) = Some (v ∷ vs)

-- every word a number: a number above 4,294,967,295 is no value, and no budget either
abbrev pub numbers_of : List (List ℕ) → Option (List ℕ)
numbers_of [] = Some []
numbers_of (w ∷ ws) = onto (number_of w) (numbers_of ws)

abbrev pub asked : HostKind → List ℕ → Option ℕ → Option (List ℕ) → Option Asked
asked host file None vs = None
asked host file (Some b) None = None
asked host file (Some b) (Some vs) = Some (record { host = host; file = file; budget = b; values = vs })

-- FILE BUDGET [VALUE ...]
abbrev pub asks_after : HostKind → List (List ℕ) → Option Asked
asks_after host [] = None
asks_after host (f ∷ []) = None
asks_after host (f ∷ (b ∷ ws)) = asked host f (number_of b) (numbers_of ws)

-- [--number] FILE BUDGET [VALUE ...]
abbrev pub asks : List (List ℕ) → Option Asked
asks [] = None
asks (w ∷ ws) = cond (bytes_eq w (codes "--number")) (asks_after Host.Number ws) (asks_after Host.List (w ∷ ws))

abbrev pub held : Request → Asked
held q = record { host = q.host; file = string_bytes q.file; budget = q.budget; values = vec_items q.values }

-- an answer to words that ask o
abbrev pub Answers : Option Asked → Result Request ArgumentFault → Type 0
Answers o (Ok q) = o ≡ Some (held q)
Answers o (Err Usage) = o ≡ None
Answers o (Err (Memory e)) = Unit {0}

abbrev pub AsksAfter : HostKind → List (List ℕ) → Result Request ArgumentFault → Type 0
AsksAfter host ws r = Answers (asks_after host ws) r

abbrev pub Asks : List (List ℕ) → Result Request ArgumentFault → Type 0
Asks ws r = Answers (asks ws) r

abbrev pub Numbers : List (List ℕ) → Result (Vec ℕ Global) ArgumentFault → Type 0
Numbers ws (Ok vs) = numbers_of ws ≡ Some (vec_items vs)
Numbers ws (Err Usage) = numbers_of ws ≡ None
Numbers ws (Err (Memory e)) = Unit {0}
