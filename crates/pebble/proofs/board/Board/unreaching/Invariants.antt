-- What `unreaching` keeps from turn to turn: the joints before this one have been looked at.
use Rattle.std.proofs.Common.{length}
use Rattle.sets.specs.Words.{members}
use Rattle.pebble.proofs.Backwards.{Kept}
use Rattle.pebble.proofs.board.Board.unreaching.Given as goal

abbrev pub invariant-loop-joint : goal.invariant-loop-joint
invariant-loop-joint l = Kept l.self.joints l.links.table.now.slots l.u.0 l.v.0 (length l.yielded) (members l.rest)
