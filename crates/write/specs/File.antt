-- What writing a file does, and when it is refused. Assumes nothing.
use Rattle.std.specs.Prelude.{◌≡◌, ℕ, ◌*◌, ◌<◌, ◌≤◌, List, ◌++◌, length, drop}
use Rattle.format.specs.declared.fault.CallFault.TheVariants.{BufferTooSmall}
use Rattle.format.specs.Words.{bytes}
use Rattle.hir.specs.declared.settled.Settled.{Settled}
use Rattle.hir.specs.Encode.{encode}
use Rattle.hir.specs.Tree.{Function}
use Rattle.write.specs.declared.file.Refused.{Refused}

-- the file of F is at the front of p, n bytes long; what follows is as in o
pub record Saved (F : Function) (o p : List ℕ) (n : ℕ) : Type 0 where
  pub long : n ≡ 4 * length (encode F)
  pub fits : n ≤ length o
  pub is : p ≡ bytes (encode F) ++ drop n o

-- o is too small for the file of F, and as it was; what was handed in is given back
pub record TooSmall (F : Function) (s : Settled) (o p : List ℕ) (e : Refused) : Type 0 where
  pub short : length o < 4 * length (encode F)
  pub fault : e.fault ≡ BufferTooSmall
  pub settled : e.settled ≡ s
  pub same : p ≡ o
