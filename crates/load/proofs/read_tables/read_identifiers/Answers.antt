use Rattle.std.proofs.Common.{refl, sym, ◌∙◌, arith}
use Rattle.format.specs.Parse.{identifier}
use Rattle.load.specs.Reads.{cursor}
use Rattle.load.proofs.Shorter.{identifier_shorter}
use Rattle.load.proofs.Stops.{handed_on}
use Rattle.load.proofs.TableSteps.{mid_stop, identifiers_first, identifiers_next, identifier_room, identifiers_in, identifiers_read}
use Rattle.load.proofs.read_tables.read_identifiers.Goals as goal

pub items-init : goal.items-init
items-init c = identifiers_first (cursor c.args.reader.now) c.requires

pub returns-in_err-identifier-clause-answer : goal.returns-in_err-identifier-clause-answer
returns-in_err-identifier-clause-answer c =
    rw (handed_on c.from_residual.result c.from_residual.ensures)
    (mid_stop identifier c.items.invariant.mid (sym c.ended.ensures ∙ c.items-test.true) c.in_err-identifier.ensures)

pub add-requires : goal.add-requires
add-requires c = (omega arith, identifier_room c.items.invariant c.in_ok-identifier.ensures c.item.new.self.limited.identifiers)

pub items-smaller : goal.items-smaller
items-smaller c = omega (arith, identifier_shorter (cursor c.items.reader) _ c.in_ok-identifier.ensures)

pub items-preserved : goal.items-preserved
items-preserved c = identifiers_next c.items.invariant (sym c.ended.ensures ∙ c.items-test.true) c.in_ok-identifier.ensures
    (record { items = c.add.ensures.items; len = c.add.ensures.len; scopes = refl; declarations = refl; counters = refl })

pub returns : goal.returns
returns c =
    let end = sym c.ended.ensures ∙ c.items-test.false in record { answer = identifiers_read c.items.invariant end c.items.reader.limited; reads = identifiers_in c.items.invariant end }
