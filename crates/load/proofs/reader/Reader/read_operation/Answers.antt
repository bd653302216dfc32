use Rattle.load.specs.Reads.{cursor}
use Rattle.load.proofs.Later.{below_later, payload_later}
use Rattle.load.proofs.ValueSteps.{room_later, room_after, op_in}
use Rattle.load.proofs.reader.Reader.read_operation.Goals as goal

pub read_places-requires : goal.read_places-requires
read_places-requires c =
    room_later (room_later c.requires (below_later 42 (cursor c.args.self.now) _ c.in_ok-kind.ensures))
    (payload_later _ (cursor c.below.new.self) _ c.in_ok-payload.ensures)

pub read_places-requires-2 : goal.read_places-requires-2
read_places-requires-2 c =
    room_after
    (room_later (room_later c.requires (below_later 42 (cursor c.args.self.now) _ c.in_ok-kind.ensures))
    (payload_later _ (cursor c.below.new.self) _ c.in_ok-payload.ensures))
    c.in_ok-written.ensures.step

pub returns : goal.returns
returns c =
    op_in c.in_ok-kind.ensures c.in_ok-payload.ensures c.in_ok-written.ensures c.in_ok-operands.ensures c.in_ok-span.ensures
