use Rattle.std.proofs.Common.{sym}
use lib.Seq.{set_out}
use Rattle.semantics.specs.Machine.{put}
use Rattle.run.proofs.store.write.Goals as goal

pub returns-else-at-store : goal.returns-else-at-store
unfolding put
returns-else-at-store c = sym (set_out c.args.store.now c.args.at c.args.value c.if-at-store.false)
