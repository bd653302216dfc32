-- What reading a text gives: its words, or its fault, unless memory failed. Assumes nothing.
use Rattle.std.specs.Prelude.{◌≡◌, ℕ, ◌⊎◌, List, Ok, Err, alloc_error, vec_items, Result, Vec}
use Rattle.std.specs.declared.alloc.Global.{Global}
use Rattle.text.specs.declared.character.TextFault.{TextFault}
use Rattle.text.specs.declared.character.TextFault.TheVariants.{Memory}
use Rattle.text.specs.Said.{said}

abbrev pub Reads : List ℕ → Result (Vec ℕ Global) TextFault → Type 0
Reads text (Ok v) = said text ≡ Ok (vec_items v)
Reads text (Err f) = (f ≡ Memory alloc_error) ⊎ (said text ≡ Err f)
