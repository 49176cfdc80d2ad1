use Rattle.pebble.proofs.Orientations.{room_bounds, room_counts}
use Rattle.pebble.proofs.laws.slots_are_counted.Goals as goal

pub returns : goal.returns
returns c = (room_bounds, room_counts)
