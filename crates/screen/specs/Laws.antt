-- What holds of the numbers that are read, and examples of what is asked and started with. Assumes nothing.
use Rattle.std.specs.Prelude.{◌≡◌, ℕ, ◌≤◌, [], ◌∷◌, Some, None, codes, decimal}
use Rattle.screen.specs.Arguments.{asks}
use Rattle.screen.specs.declared.arguments.HostKind.TheVariants as Host
use Rattle.screen.specs.Number.{number_of}
use Rattle.screen.specs.Store.{store_of}

-- a number is read again from its digits
abbrev pub ReadsBack : Type 0
ReadsBack = (n : ℕ) → n ≤ 4294967295 → number_of (decimal n) ≡ Some n

pub record Examples : Type 0 where
  pub flag : asks (codes "--number" ∷ codes "f" ∷ codes "100" ∷ codes "5" ∷ []) ≡ Some (record { host = Host.Number; file = codes "f"; budget = 100; values = 5 ∷ [] })
  pub no_flag : asks (codes "f" ∷ codes "007" ∷ []) ≡ Some (record { host = Host.List; file = codes "f"; budget = 7; values = [] })
  pub no_words : asks [] ≡ None
  pub no_budget : asks (codes "f" ∷ []) ≡ None
  pub no_number : asks (codes "f" ∷ codes "1" ∷ codes "-1" ∷ []) ≡ None
  pub empty_word : asks (codes "f" ∷ [] ∷ []) ≡ None
  pub largest : number_of (codes "4294967295") ≡ Some 4294967295
  pub above : number_of (codes "4294967296") ≡ None
  pub filled : store_of (5 ∷ []) 3 ≡ 5 ∷ 0 ∷ 0 ∷ []
  pub longer : store_of (5 ∷ 6 ∷ []) 1 ≡ 5 ∷ 6 ∷ []
