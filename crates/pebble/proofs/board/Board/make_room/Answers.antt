use Rattle.pebble.proofs.Gathers.{apart_moved, room_same}
use Rattle.pebble.proofs.board.Board.make_room.Goals as goal

pub invariant_of-self : goal.invariant_of-self
invariant_of-self c =
    let b = c.args.self.now in
    record { few = b.few; apart = apart_moved b.joints b.table.slots _ (room_same _ _ _ c.room_in.result _ c.room_in.ensures) b.apart }
