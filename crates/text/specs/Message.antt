-- What a person is told of a text that is refused: where, and what is wrong there. Assumes nothing.
use Rattle.std.specs.Prelude.{ℕ, List, ◌++◌, codes, decimal}
use Rattle.text.specs.declared.character.Position.{Position}
use Rattle.text.specs.declared.character.TextFault.{TextFault}
use Rattle.text.specs.declared.character.TextFault.TheVariants.{Character, TooLarge, Memory}

abbrev pub position : Position → List ℕ
position at = codes "line " ++ (decimal at.line ++ (codes ", column " ++ decimal at.column))

abbrev pub message : TextFault → List ℕ
message (Character at) = position at ++ codes ": not a decimal word"
message (TooLarge at) = position at ++ codes ": a word too large"
message (Memory e) = codes "no memory"
