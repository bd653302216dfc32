use Rattle.calls.proofs.calls_keep_what_was_loaded.Goals as goal
use Rattle.calls.proofs.Calls.{calls_keep}

pub returns : goal.returns
returns g c = calls_keep _
