-- The answers for `unreaching`: one joint more is looked at, and at the end the joints that are left are the group that is asked for.
use Rattle.std.proofs.Common.{◌≡◌, ◌+◌, length, sym, ◌∙◌, subst, arith, rules}
use Rattle.std.proofs.Math.Nat.{le_of_eq}
use Rattle.std.proofs.lemmas.Iterator.{YieldsList-from_map_by, YieldsList-from_range}
use Rattle.std.proofs.lemmas.Iterator.Consumers.{YieldsList-turn, YieldsList-end}
use Rattle.std.proofs.lemmas.List.{length_push}
use Rattle.std.proofs.lemmas.List.FromFn.{length-map-range_with_len}
use Rattle.sets.specs.Words.{members}
use Rattle.pebble.specs.Slots.{Slots}
use Rattle.pebble.proofs.Backwards.{Kept, turn_of, kept_passed, kept_out, kept_dropped, kept_all}
use Rattle.pebble.proofs.board.Board.unreaching.Goals as goal
use Rattle.pebble.proofs.board.Board.unreaching.Goals.{else-is_outlet-via-then-is_outlet+else-remove, else-is_outlet-via-else-is_outlet}

pub loop-joint-preserved-then-remove : goal.loop-joint-preserved-then-remove
loop-joint-preserved-then-remove c =
    let n = c.args.self.now.joints in
    let slots = c.over-links.result.table.now.slots in
    let road = YieldsList-from_map_by _ (λ j. j.0) (λ k. k) (YieldsList-from_range 0 n n (search rules) (omega arith)) c.map-joint-items.ensures.closure (λ x r q k. search rules) in
    let turn = turn_of n _ _ (YieldsList-turn road c.loop-joint.yielded _ c.loop-joint.yielded_by _ _ c.in-Some.joint c.in-Some.is c.next.ensures.steps) in
    let before = subst (λ k. Kept n slots c.args.u.0 c.args.v.0 k (members c.loop-joint.rest)) (sym turn.1) c.loop-joint.invariant in
    let after = kept_dropped _ _ _ _ _ _ _ _ before turn.0 (sym c.if-is_outlet.ensures) c.remove.ensures.after c.drop_behind.ensures in
    rw length_push (subst (λ k. Kept n slots c.args.u.0 c.args.v.0 (k + 1) (members c.drop_behind.new.rest)) turn.1 after)

pub loop-joint-preserved : goal.loop-joint-preserved
loop-joint-preserved c =
    let n = c.args.self.now.joints in
    let slots = c.over-links.result.table.now.slots in
    let road = YieldsList-from_map_by _ (λ j. j.0) (λ k. k) (YieldsList-from_range 0 n n (search rules) (omega arith)) c.map-joint-items.ensures.closure (λ x r q k. search rules) in
    let turn = turn_of n _ _ (YieldsList-turn road c.loop-joint.yielded _ c.loop-joint.yielded_by _ _ c.in-Some.joint c.in-Some.is c.next.ensures.steps) in
    let before = subst (λ k. Kept n slots c.args.u.0 c.args.v.0 k (members c.loop-joint.rest)) (sym turn.1) c.loop-joint.invariant in
    let after : Kept n slots c.args.u.0 c.args.v.0 (c.in-Some.joint.0 + 1) (members c.else-is_outlet.rest) =
    elim c.else-is_outlet.branch [
      | else-is_outlet-via-then-is_outlet+else-remove w ↦ rw w.rest-is (kept_out _ _ _ _ _ _ _ before (sym w.if-remove.ensures.value) w.remove.ensures.after)
      | else-is_outlet-via-else-is_outlet w ↦ rw w.rest-is (kept_passed _ _ _ _ _ _ before (sym w.if-is_outlet.ensures))
    ] in
    rw length_push (subst (λ k. Kept n slots c.args.u.0 c.args.v.0 (k + 1) (members c.else-is_outlet.rest)) turn.1 after)

pub returns : goal.returns
returns c =
    let board = c.args.self.now in
    let n = board.joints in
    let road = YieldsList-from_map_by _ (λ j. j.0) (λ k. k) (YieldsList-from_range 0 n n (search rules) (omega arith)) c.map-joint-items.ensures.closure (λ x r q k. search rules) in
    let all = (YieldsList-end road c.loop-joint.yielded _ c.loop-joint.yielded_by _ _ c.in-None.is c.next.ensures.steps).1 in
    let counted : length c.loop-joint.yielded ≡ n = all ∙ length-map-range_with_len (λ k. k) 0 n in
    kept_all _ _ _ _ _ _ board.table.ends board.apart (le_of_eq (sym counted))
    (subst (λ (s : Slots). Kept n s c.args.u.0 c.args.v.0 (length c.loop-joint.yielded) (members c.loop-joint.rest)) c.over-links.ensures.same c.loop-joint.invariant)
