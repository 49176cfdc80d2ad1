use Rattle.std.proofs.Common.{◌∙◌, arith}
use Rattle.pebble.proofs.Tables.{board_stands, settled_cleared, settled_wider}
use Rattle.pebble.proofs.board.Board.take.Goals as goal

pub invariant_of-self : goal.invariant_of-self
invariant_of-self c =
    let b = c.args.self.now in
    let slot = c.in_ok-slot.slot in
    let after = settled_cleared b.joints b.table.slots slot (omega (arith, c.in_ok-slot.ensures.below, b.table.whole)) (board_stands b) in
    let wider = settled_wider b.joints 512 _ b.few after.0 in
    ((after.1 ∙ b.table.whole, (wider.ends, (wider.apart, (wider.once, tt)))), (b.few, (after.0.apart, tt)))
