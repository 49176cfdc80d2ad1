use Rattle.std.proofs.Common.{◌≡◌, ◌+◌, ◌≤◌, max}
use Rattle.pebble.specs.Slots.{SameItems, room}
use Rattle.pebble.proofs.board.table.Table.gather_in.Given as goal

abbrev pub invariant-loop-empty : goal.invariant-loop-empty
invariant-loop-empty l =
    SameItems l.initial.self.slots l.self.slots
    × (l.empty-counter ≡ room l.self.slots l.pair.u.0 + room l.self.slots l.pair.v.0)
    × (l.empty-counter ≤ max l.wanted (room l.initial.self.slots l.pair.u.0 + room l.initial.self.slots l.pair.v.0))
    × (l.wanted ≤ room l.initial.self.slots l.pair.u.0 + room l.initial.self.slots l.pair.v.0 → l.self.slots ≡ l.initial.self.slots)
