use Rattle.std.proofs.Common.{refl, ap, ◌∙◌, arith}
use Rattle.format.specs.Parse.{place, onto, times}
use Rattle.load.proofs.Stops.{handed_on}
use Rattle.load.proofs.ValueSteps.{room_word, places_after, places_stop, place_room, places_in_row}
use Rattle.load.proofs.reader.Reader.read_places.Goals as goal

pub returns-in_err-place : goal.returns-in_err-place
returns-in_err-place c =
    rw (handed_on c.from_residual-in_err-place.result c.from_residual-in_err-place.ensures) (ap (λ r. onto r (times place)) c.in_ok-count.ensures ∙ places_stop c.loop-test.true c.loop.invariant c.in_err-place.ensures)

pub add-requires : goal.add-requires
add-requires c = (
  omega arith,
  place_room (room_word _ c.requires c.in_ok-count.ensures) c.loop.invariant c.in_ok-place.ensures c.item.new.self.limited.places,
)

pub loop-preserved : goal.loop-preserved
loop-preserved c = places_after c.loop.invariant c.in_ok-place.ensures (record { items = c.add.ensures.items; len = c.add.ensures.len; values = refl; instructions = refl; waiting = refl })

pub returns : goal.returns
returns c = places_in_row c.in_ok-count.ensures c.len-start.ensures (omega (arith, c.loop-test.false)) c.loop.invariant
