-- The worked examples come out as listed.
-- With every definition of the run open, each row computes to its result.
use Rattle.std.proofs.Common.{refl}
use Rattle.host.specs.Asked.{fixed}
use Rattle.semantics.specs.Machine.{look, put, branch, bind, handle, map_out, enter, leave, on_reply, ask, tick, iter}
use Rattle.semantics.specs.Exec.{class, records_of, exec}
use Rattle.semantics.specs.Examples.{AsListed}

pub examples_right : AsListed
unfolding look put branch bind handle map_out enter leave on_reply ask tick iter class records_of exec fixed
examples_right = refl
