use Rattle.loaded.proofs.the_questions_suffice.Goals as goal
use Rattle.loaded.proofs.Loaded.{questions_suffice}

pub returns : goal.returns
returns c = questions_suffice
