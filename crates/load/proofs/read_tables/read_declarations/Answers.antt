use Rattle.std.proofs.Common.{refl, arith}
use Rattle.load.proofs.Stops.{handed_on}
use Rattle.load.proofs.TableSteps.{declarations_after, declarations_stop, declaration_room}
use Rattle.load.proofs.read_tables.read_declarations.Goals as goal

pub returns-in_err-declaration : goal.returns-in_err-declaration
returns-in_err-declaration c =
    rw (handed_on c.from_residual.result c.from_residual.ensures) (declarations_stop c.loop-test.true c.loop.invariant c.in_err-declaration.ensures)

pub add-requires : goal.add-requires
add-requires c = (omega arith, declaration_room c.loop.invariant c.in_ok-declaration.ensures c.item.new.self.limited.declarations)

pub loop-preserved : goal.loop-preserved
loop-preserved c = declarations_after c.loop.invariant c.in_ok-declaration.ensures (record { items = c.add.ensures.items; len = c.add.ensures.len; identifiers = refl; scopes = refl; counters = refl })
