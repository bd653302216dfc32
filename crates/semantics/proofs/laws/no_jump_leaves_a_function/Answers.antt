use Rattle.semantics.proofs.laws.no_jump_leaves_a_function.Goals as goal
use Rattle.semantics.proofs.Jumps.{no_jump_leaves}

pub returns : goal.returns
returns g c = no_jump_leaves
