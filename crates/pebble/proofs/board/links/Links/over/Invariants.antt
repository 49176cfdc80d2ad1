-- What `over` keeps from turn to turn: the slots before this one are linked.
use Rattle.pebble.proofs.Backwards.{Linking}
use Rattle.pebble.proofs.board.links.Links.over.Given as goal

abbrev pub invariant-loop-slot : goal.invariant-loop-slot
invariant-loop-slot l = Linking l.board.table.slots l.slot l.last l.before
