use Rattle.std.proofs.Common.{refl}
use Rattle.load.specs.Reads.{cursor}
use Rattle.load.proofs.TableSteps.{begun_room, scope_in}
use Rattle.load.proofs.read_tables.read_scope.Goals as goal

pub read_declarations-requires : goal.read_declarations-requires
read_declarations-requires c =
    (begun_room (cursor c.args.reader.now) (cursor c.begin_scope.new.self) (cursor c.item.new.self) c.requires c.in_ok-begin_scope.ensures c.in_ok-early.ensures c.in_ok-count.ensures).0

pub returns : goal.returns
returns c =
    scope_in c.requires c.in_ok-begin_scope.ensures c.in_ok-early.ensures c.in_ok-count.ensures c.len-owner.ensures c.in_ok-read_declarations.ensures
    (record { items = c.add.ensures.items; len = c.add.ensures.len; identifiers = refl; declarations = refl; counters = refl })
