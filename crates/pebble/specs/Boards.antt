-- What those who use a board see of it: how many joints it has, and what its slots hold. Assumes nothing: these are definitions.
use Rattle.std.specs.Prelude.{ℕ}
use Rattle.pebble.specs.declared.board.Board.{Board}
use Rattle.pebble.specs.Slots.{Slots}

-- how many joints a board has
abbrev pub joints_of : Board → ℕ
joints_of b = b.joints

-- its slots in a row
abbrev pub slots_of : Board → Slots
slots_of b = b.table.slots
