use Rattle.std.proofs.Common.{refl}
use Rattle.pebble.proofs.Tables.{nothing_settled}
use Rattle.pebble.proofs.board.table.Table.empty.Goals as goal

pub invariant_of-result : goal.invariant_of-result
invariant_of-result c = record { whole = refl; ends = (nothing_settled 512).ends; apart = (nothing_settled 512).apart; once = (nothing_settled 512).once }
