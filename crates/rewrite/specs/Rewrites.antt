-- What writing a loaded file back does, and when it is refused. Assumes nothing.
use Rattle.std.specs.Prelude.{◌≡◌, ℕ, ◌<◌, ◌≤◌, List, ◌++◌, length, drop}
use Rattle.hir.specs.declared.tables.Tables.{Tables}
use Rattle.format.specs.declared.fault.CallFault.{CallFault}
use Rattle.format.specs.declared.fault.CallFault.TheVariants.{Load, BufferTooSmall}
use Rattle.load.specs.Loads.{Loaded, Refused, Emptied}

-- the file's own bytes are at the front of p, n of them; what follows is as in o
pub record Back (bs o p : List ℕ) (t : Tables) (n : ℕ) : Type 0 where
  pub long : n ≡ length bs
  pub fits : n ≤ length o
  pub is : p ≡ bs ++ drop n o
  pub loaded : Loaded bs t

-- the load's own refusal, or a buffer that is shorter than the file
abbrev pub Why : List ℕ → List ℕ → Tables → CallFault → Type 0
Why bs o t (Load f) = Refused bs f × Emptied t
Why bs o t BufferTooSmall = (length o < length bs) × Loaded bs t

-- a refused call leaves o as it was
pub record Kept (bs o p : List ℕ) (t : Tables) (e : CallFault) : Type 0 where
  pub why : Why bs o t e
  pub same : p ≡ o
