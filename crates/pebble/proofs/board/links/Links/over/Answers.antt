-- The answers for `over`: a slot that is empty, and a slot with an item, which is put before the others that lead to the same joint.
use Rattle.std.proofs.Common.{◌≡◌, ◌*◌, ◌<◌, length, take, replicate, None, sym, refl, subst, ◌∙◌, arith}
use Rattle.std.proofs.lemmas.List.{get_or-take, length-take-le}
use Rattle.pebble.specs.Links.{Linked}
use Rattle.pebble.proofs.Backwards.{linking_none, linking_empty, linking_item, linked_all, other_small}
use Rattle.pebble.proofs.board.links.Links.over.Goals as goal
use Rattle.pebble.proofs.board.links.Links.over.Goals.{in-Some, in_default}

pub loop-slot-init : goal.loop-slot-init
loop-slot-init c = linking_none _ (replicate 512 None) (replicate 1024 None) refl refl

pub loop-slot-preserved : goal.loop-slot-preserved
loop-slot-preserved c =
    let board = c.args.board.now in
    let n = board.joints in
    let slots = board.table.slots in
    let long : length (take (2 * n) slots) ≡ 2 * n = length-take-le (2 * n) slots (omega (arith, board.few, board.table.whole)) in
    let before : c.loop-slot.slot < 2 * n = omega (arith, long, c.loop-slot-test.true) in
    let same = sym (get_or-take (2 * n) slots c.loop-slot.slot None before) in
    elim c.match-held.branch [
      | in-Some w ↦
          let lies = same ∙ w.in-Some.is in
          let small = other_small slots n _ _ _ _ board.few board.apart lies w.other_end-to.ensures in
          linking_item _ _ _ _ _ _ _ _ c.loop-slot.invariant (omega (arith, before, board.few)) small lies w.other_end-to.ensures w.last-is w.before-is
      | in_default w ↦ linking_empty _ _ _ _ _ _ c.loop-slot.invariant (same ∙ w.in_default.is) w.last-is w.before-is
    ]

pub returns-clause-linked : goal.returns-clause-linked
returns-clause-linked c =
    let board = c.args.board.now in
    let n = board.joints in
    let long : length (take (2 * n) board.table.slots) ≡ 2 * n = length-take-le (2 * n) board.table.slots (omega (arith, board.few, board.table.whole)) in
    let all : c.loop-slot.slot ≡ 2 * n = omega (arith, long, c.loop-slot-test.false, c.loop-slot.auto.slot-end) in
    (linked_all board.table.slots n _ _ 0 board.few board.table.ends board.apart (subst (λ p. Linked board.table.slots p c.loop-slot.last c.loop-slot.before) all c.loop-slot.invariant.linked) (omega arith)).linked
