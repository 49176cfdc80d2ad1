use Rattle.std.proofs.Common.{sym, subst, arith}
use Rattle.pebble.specs.Slots.{Apart}
use Rattle.pebble.proofs.Tables.{nothing_settled}
use Rattle.pebble.proofs.board.Board.new.Goals as goal

pub invariant_of-result : goal.invariant_of-result
invariant_of-result c = record { few = omega arith; apart = subst (Apart _) (sym c.empty.ensures) (nothing_settled _).apart }
