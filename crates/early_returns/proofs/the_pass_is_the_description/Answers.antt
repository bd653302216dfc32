use Rattle.early_returns.proofs.the_pass_is_the_description.Goals as goal
use Rattle.early_returns.proofs.PassIsDescription.{pass_is_description}

pub returns : goal.returns
returns c = pass_is_description
