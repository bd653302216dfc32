-- The lines that show a file say its words again.
use Rattle.text.proofs.Sectioned.{shown_is_read_again}
use Rattle.text.proofs.again.what_is_shown_is_read_again.Goals as goal

pub returns : goal.returns
returns c = shown_is_read_again
