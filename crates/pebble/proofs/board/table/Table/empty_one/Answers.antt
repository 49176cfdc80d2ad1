use Rattle.std.proofs.Common.{sym, subst, rules}
use Rattle.sets.specs.Words.{members}
use Rattle.pebble.specs.Moves.{Stuck}
use Rattle.pebble.proofs.Gathers.{emptied_first, emptied_second, reached, two_seen}
use Rattle.pebble.proofs.board.table.Table.empty_one.Goals as goal
use Rattle.pebble.proofs.board.table.Table.empty_one.Goals.{then-is_some-via-then-is_some, then-is_some-via-else-is_some+then-is_some-2}

pub returns-then-is_some : goal.returns-then-is_some
returns-then-is_some c =
    let u = c.args.pair.u.0 in
    let v = c.args.pair.v.0 in
    let two = two_seen _ _ (members c.insert-2.new.self) u v c.args.pair.two c.empty-seen.ensures c.insert.ensures.after c.insert-2.ensures.after in
    elim c.then-is_some.branch [
      | then-is_some-via-then-is_some w ↦ rw w.self-is (emptied_first _ _ _ _ u v _ c.args.pair.two two (sym w.if-is_some.ensures) c.move_on.ensures)
      | then-is_some-via-else-is_some+then-is_some-2 w ↦
          rw w.self-is (emptied_second _ _ _ _ _ _ u v _ _ c.args.pair.two two (sym w.if-is_some.ensures) c.move_on.ensures (sym w.if-is_some-2.ensures) w.move_on-else-is_some.ensures)
    ]

pub returns : goal.returns
returns c =
    let u = c.args.pair.u.0 in
    let v = c.args.pair.v.0 in
    let before = c.args.self.now.slots in
    let between = c.move_on.new.self.slots in
    let seen = members c.move_on.new.seen in
    let two = two_seen _ _ (members c.insert-2.new.self) u v c.args.pair.two c.empty-seen.ensures c.insert.ensures.after c.insert-2.ensures.after in
    let first : Stuck before (members c.insert-2.new.self) u between seen = search rules in
    reached before between _ u v seen _ (subst (λ s. Stuck before s u between seen) two first) (search rules)
