use Rattle.std.proofs.Common.{refl}
use Rattle.std.proofs.lemmas.Result.{MatchResult-weaker}
use Rattle.hir.specs.Decode.{top_value as top_slot}
use Rattle.format.specs.Parse.{top_value as top_parser}
use Rattle.load.proofs.BlockSteps.{lifted}
use Rattle.load.proofs.reader.Reader.read_top_instruction.Goals as goal

pub returns : goal.returns
unfolding top_slot top_parser
returns c = MatchResult-weaker c.read_instruction.result c.read_instruction.ensures (λ _ m. lifted refl refl refl refl refl m) (λ _ e. e)
