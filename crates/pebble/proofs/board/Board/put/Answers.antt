use Rattle.std.proofs.Common.{◌≡◌, ◌≢◌, ◌/◌, ◌<◌, true, ◌∙◌, arith, rules}
use Rattle.pebble.specs.Slots.{is_end, one, two}
use Rattle.pebble.proofs.Tables.{board_stands, settled_written, settled_wider, end_inside}
use Rattle.pebble.proofs.board.Board.put.Goals as goal

pub invariant_of-self : goal.invariant_of-self
invariant_of-self c =
    let b = c.args.self.now in
    let item = c.args.item in
    let s = c.in_ok-slot.slot in
    let pair : (one item < b.joints) × (two item < b.joints) × (one item ≢ two item) = search rules in
    let end : is_end item (s / 2) ≡ true = search rules in
    let inside : s < 1024 = omega (arith, end_inside b.joints item (s / 2) end pair.0 pair.1, b.few) in
    let after = settled_written b.joints b.table.slots s item b.table.whole inside end pair.0 pair.1 pair.2 (search rules) (board_stands b) in
    let wider = settled_wider b.joints 512 _ b.few after.0 in
    ((after.1 ∙ b.table.whole, (wider.ends, (wider.apart, (wider.once, tt)))), (b.few, (after.0.apart, tt)))
