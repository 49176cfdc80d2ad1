-- The answers for `drop_behind`: each follows from a lemma on what the search knows at the start of a turn.
use Rattle.std.proofs.Common.{◌<◌, get_or, None, sym, refl, subst}
use Rattle.sets.specs.Sets.{count}
use Rattle.sets.specs.Words.{members}
use Rattle.pebble.specs.Links.{Dropped}
use Rattle.pebble.proofs.Backwards.{past, searching, falls, also_from, sofar_first, sofar_call, sofar_out, sofar_taken}
use Rattle.pebble.proofs.board.links.Links.+drop_behind.Goals as goal
use Rattle.pebble.proofs.board.links.Links.+drop_behind.Goals.{then-remove, else-remove}

pub loop-next-init : goal.loop-next-init
loop-next-init t c = sofar_first _ _ _ _ _ (searching _ _ _ _ c.args.self.now.table.now.whole c.requires)

pub drop_behind-requires : goal.drop_behind-requires
drop_behind-requires t c =
    let so = c.loop-next.invariant c.args.joint.0 c.requires.joint refl in
    let h = sofar_call _ _ _ _ _ _ _ _ (members c.remove.new.self) (searching _ _ _ _ c.args.self.now.table.now.whole c.requires) so c.in-Some.is c.if-remove.ensures.value c.remove.ensures.after in
    (subst (λ n. count 512 (members c.remove.new.self) < n) c.decreases h.0, h.1)

pub loop-next-smaller : goal.loop-next-smaller
loop-next-smaller t c =
    let so = c.loop-next.invariant c.args.joint.0 c.requires.joint refl in
    subst (λ o. past (get_or c.args.self.now.before c.in-Some.slot None) < past o) (sym c.in-Some.is)
    (falls _ _ _ _ _ (searching _ _ _ _ c.args.self.now.table.now.whole c.requires) (so.link c.in-Some.slot c.in-Some.is))

pub loop-next-preserved : goal.loop-next-preserved
loop-next-preserved t c j small e =
    let pre = also_from _ _ _ _ j (searching _ _ _ _ c.args.self.now.table.now.whole c.requires) small in
    let so = c.loop-next.invariant j small e in
    elim c.if-remove.branch [
      | then-remove w ↦ rw w.rest-is (sofar_taken _ _ _ _ _ _ _ _ _ _ pre so c.in-Some.is c.remove.ensures.after w.drop_behind.ensures)
      | else-remove w ↦ rw w.rest-is (sofar_out _ _ _ _ _ _ _ _ _ pre so c.in-Some.is w.if-remove.ensures.value c.remove.ensures.after)
    ]

pub returns : goal.returns
returns t c =
    let so = c.loop-next.invariant c.args.joint.0 c.requires.joint refl in
    subst (λ o. Dropped c.args.self.now.table.now.slots (members c.args.rest.now) c.args.joint.0 (past o) (members c.loop-next.rest)) c.in_default.is so.dropped
