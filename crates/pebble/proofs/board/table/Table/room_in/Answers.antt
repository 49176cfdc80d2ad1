use Rattle.std.proofs.Common.{◌≡◌, false, Err, subst, rules}
use Rattle.sets.specs.Words.{members}
use Rattle.pebble.specs.Slots.{room}
use Rattle.pebble.specs.Moves.{Stuck}
use Rattle.pebble.proofs.Tables.{full_inside}
use Rattle.pebble.proofs.Gathers.{roomless}
use Rattle.pebble.proofs.board.table.Table.room_in.Goals as goal

pub returns-in_err-ok_or : goal.returns-in_err-ok_or
returns-in_err-ok_or c =
    let t = c.args.self.now in
    let kept = members c.args.kept.now in
    let j = c.args.joint.0 in
    let after = c.move_on.new.self.slots in
    let seen = members c.move_on.new.seen in
    let full : room t.slots j ≡ 0 = search rules in
    let new : kept j ≡ false = search rules in
    let stuck : Stuck t.slots (members c.insert.new.self) j after seen = search rules in
    let short : c.from_residual.result ≡ Err (record { seen = c.move_on.new.seen }) = search rules in
    rw short (roomless t.slots after kept j _ new full (subst (λ s. Stuck t.slots s j after seen) (c.insert.ensures.after (full_inside _ j t.whole full)) stuck))
