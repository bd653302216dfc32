-- The bytes of the words that a text says, or its fault; and what a call gives of it, unless memory failed. Assumes nothing.
use Rattle.std.specs.Prelude.{◌≡◌, ℕ, ◌⊎◌, List, Ok, Err, alloc_error, vec_items, Result, Vec}
use Rattle.std.specs.declared.alloc.Global.{Global}
use Rattle.format.specs.Words.{bytes}
use Rattle.text.specs.Said.{said}
use Rattle.text.specs.declared.character.TextFault.{TextFault}
use Rattle.text.specs.declared.character.TextFault.TheVariants.{Memory}

abbrev pub as_bytes : Result (List ℕ) TextFault → Result (List ℕ) TextFault
as_bytes (Ok ws) = Ok (bytes ws)
as_bytes (Err f) = Err f

abbrev pub packed : List ℕ → Result (List ℕ) TextFault
packed text = as_bytes (said text)

abbrev pub Packs : List ℕ → Result (Vec ℕ Global) TextFault → Type 0
Packs text (Ok v) = packed text ≡ Ok (vec_items v)
Packs text (Err f) = (f ≡ Memory alloc_error) ⊎ (packed text ≡ Err f)
