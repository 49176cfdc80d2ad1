use Rattle.std.proofs.Common.{◌≡◌, ◌+◌, ◌*◌, ◌<◌, None, ◌∙◌, subst, arith, rules}
use Rattle.sets.specs.Words.{members}
use Rattle.pebble.specs.Slots.{room}
use Rattle.pebble.specs.Moves.{Moved, Stuck}
use Rattle.pebble.proofs.Searches.{unseen, held_at, turn_at, turn_ready, turn_seen, turn_stuck, sofar_passed, sofar_all}
use Rattle.pebble.proofs.Carries.{passed_on}
use Rattle.pebble.proofs.Tables.{stands}
use Rattle.pebble.proofs.board.table.Table.+find_room_move_on.Goals as goal

pub move_on-returns : goal.move_on-returns
move_on-returns t c = sofar_all _ _ _ _ _ _ c.loop-k.invariant.0 c.loop-k.invariant.1 (omega arith)

pub move_on-find_room-requires : goal.move_on-find_room-requires
move_on-find_room-requires t c =
    let turn = turn_at _ _ _ _ _ _ _ _ _ _ (stands c.args.self.now) c.requires c.loop-k.invariant c.items_at.ensures c.loop-k-test.true c.in-Some.is c.other_end-other.ensures c.insert.ensures.after in
    let h = turn_ready _ _ _ _ _ _ _ _ turn (search rules) in
    (subst (λ n. 2 * unseen (members c.insert.new.self) + 1 < n) c.decreases (omega (arith, h.0)), h.1)

pub move_on-invariant_of-self : goal.move_on-invariant_of-self
move_on-invariant_of-self t c =
    let turn = turn_at _ _ _ _ _ _ _ _ _ _ (stands c.args.self.now) c.requires c.loop-k.invariant c.items_at.ensures c.loop-k-test.true c.in-Some.is c.other_end-other.ensures c.insert.ensures.after in
    let found = subst (λ l. Moved l (members c.insert.new.self) c.other_end-other.result.0 c.in-Some-find_room.free c.find_room.new.self.slots) c.loop-k.invariant.0 c.in-Some-find_room.ensures in
    let passed = passed_on _ _ c.swap.new.self _ _ _ _ _ _ _ _ turn (search rules) found c.swap.ensures.len (c.swap.ensures.by_index.0 None) (c.swap.ensures.by_index.1 None) (λ s d g. c.swap.ensures.by_index.2 s None d g) in
    let after = passed.2 (stands c.find_room.new.self) in
    record { whole = after.1 ∙ c.find_room.new.self.whole; ends = after.0.ends; apart = after.0.apart; once = after.0.once }

pub move_on-returns-in-Some-find_room : goal.move_on-returns-in-Some-find_room
move_on-returns-in-Some-find_room t c =
    let turn = turn_at _ _ _ _ _ _ _ _ _ _ (stands c.args.self.now) c.requires c.loop-k.invariant c.items_at.ensures c.loop-k-test.true c.in-Some.is c.other_end-other.ensures c.insert.ensures.after in
    let found = subst (λ l. Moved l (members c.insert.new.self) c.other_end-other.result.0 c.in-Some-find_room.free c.find_room.new.self.slots) c.loop-k.invariant.0 c.in-Some-find_room.ensures in
    let passed = passed_on _ _ c.swap.new.self _ _ _ _ _ _ _ _ turn (search rules) found c.swap.ensures.len (c.swap.ensures.by_index.0 None) (c.swap.ensures.by_index.1 None) (λ s d g. c.swap.ensures.by_index.2 s None d g) in
    (passed.0, passed.1)

pub move_on-loop-k-preserved-in_default : goal.move_on-loop-k-preserved-in_default
move_on-loop-k-preserved-in_default t c = (
  c.loop-k.invariant.0,
  sofar_passed _ _ _ _ _ _ _ (omega arith) c.loop-k.invariant.1 c.loop-k.invariant.1.spread (λ _ h. h)
      (λ x lies. cc (lies, held_at c.args.self.now.slots _ c.args.joint.0 c.loop-k.k c.items_at.ensures c.loop-k-test.true, c.in_default.is)),
)

pub move_on-loop-k-preserved-then-not-insert : goal.move_on-loop-k-preserved-then-not-insert
move_on-loop-k-preserved-then-not-insert t c =
    let turn = turn_at _ _ _ _ _ _ _ _ _ _ (stands c.args.self.now) c.requires c.loop-k.invariant c.items_at.ensures c.loop-k-test.true c.in-Some.is c.other_end-other.ensures c.insert.ensures.after in
    (c.loop-k.invariant.0, turn_seen _ _ _ _ _ _ _ _ _ (omega arith) turn (search rules))

pub move_on-loop-k-preserved : goal.move_on-loop-k-preserved
move_on-loop-k-preserved t c =
    let k = c.other_end-other.result.0 in
    let turn = turn_at _ _ _ _ _ _ _ _ _ _ (stands c.args.self.now) c.requires c.loop-k.invariant c.items_at.ensures c.loop-k-test.true c.in-Some.is c.other_end-other.ensures c.insert.ensures.after in
    let failed = subst (λ l. Stuck l (members c.insert.new.self) k c.find_room.new.self.slots (members c.find_room.new.seen) × (room l k ≡ 0)) c.loop-k.invariant.0 c.in_default-find_room.ensures in
    (failed.0.still, turn_stuck _ _ _ _ _ _ _ _ _ _ _ (omega arith) turn (search rules) failed.1 failed.0)
