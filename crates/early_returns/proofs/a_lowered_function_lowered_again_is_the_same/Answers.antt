use Rattle.early_returns.proofs.a_lowered_function_lowered_again_is_the_same.Goals as goal
use Rattle.early_returns.proofs.Again.{lowered_once}

pub returns : goal.returns
returns c = lowered_once
