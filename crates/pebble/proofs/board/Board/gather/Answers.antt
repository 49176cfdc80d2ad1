use Rattle.pebble.proofs.Gathers.{apart_moved, gather_same, gather_within}
use Rattle.pebble.proofs.board.Board.gather.Goals as goal

pub invariant_of-self : goal.invariant_of-self
invariant_of-self c =
    let b = c.args.self.now in
    record { few = b.few; apart = apart_moved b.joints b.table.slots _ (gather_same 512 _ _ _ _ c.gather_in.result _ c.gather_in.ensures) b.apart }

pub returns-clause-after : goal.returns-clause-after
returns-clause-after c =
    let made = c.in_ok-pair.ensures in
    let says = rw (made.1.0, made.1.1) at c.gather_in.ensures in
    (made.0, gather_within c.args.self.now.joints _ _ _ _ c.gather_in.result _ c.args.self.now.few says)
