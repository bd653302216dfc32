-- By the lemma of that name.
use Rattle.screen.proofs.Digits.{reads_back}
use Rattle.screen.proofs.laws.numbers_read_back.Goals as goal

pub returns : goal.returns
returns c = reads_back
