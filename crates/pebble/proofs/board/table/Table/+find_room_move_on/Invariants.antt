use Rattle.std.proofs.Common.{◌≡◌, ◌+◌, ◌*◌}
use Rattle.sets.specs.Words.{members}
use Rattle.pebble.proofs.Searches.{unseen, Sofar}
use Rattle.pebble.proofs.board.table.Table.+find_room_move_on.Given as goal

-- each call for another joint leaves fewer joints unseen; `find_room` calls `move_on` for the same joint
abbrev pub decreases-find_room : goal.decreases-find_room
decreases-find_room l = 2 * unseen (members l.seen.now) + 1

abbrev pub decreases-move_on : goal.decreases-move_on
decreases-move_on l = 2 * unseen (members l.seen.now)

abbrev pub invariant-move_on-loop-k : goal.invariant-move_on-loop-k
invariant-move_on-loop-k l =
    (l.self.slots ≡ l.initial.self.slots) × Sofar l.initial.self.slots (members l.initial.seen) l.joint.0 (2 * l.joint.0 + l.k) (members l.seen)
