-- What `drop_behind` keeps from turn to turn, and what falls: the joints that are still in from call to call, and the slot that comes next from turn
-- to turn.
use Rattle.sets.specs.Sets.{count}
use Rattle.sets.specs.Words.{members}
use Rattle.pebble.proofs.Backwards.{past, SofarFrom}
use Rattle.pebble.proofs.board.links.Links.+drop_behind.Given as goal

abbrev pub decreases-drop_behind : goal.decreases-drop_behind
decreases-drop_behind l = count 512 (members l.rest.now)

abbrev pub invariant-loop-next : goal.invariant-loop-next
invariant-loop-next l = SofarFrom l.self.table.now.slots l.self.last (members l.initial.rest) l.initial.next l.next (members l.rest)

abbrev pub decreases-loop-next : goal.decreases-loop-next
decreases-loop-next l = past l.next
