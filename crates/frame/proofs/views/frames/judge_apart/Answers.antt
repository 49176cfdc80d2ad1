use Rattle.std.proofs.Common.{◌≡◌, ◌/◌, length, true, false, [], ap, below_more, arith}
use Rattle.std.specs.Option.{option_map}
use Rattle.std.proofs.lemmas.Bool.{eq-eqb, ne_eqb}
use Rattle.sets.proofs.First.{first_some, first_none}
use Rattle.frame.specs.Refusals.{equal_ends}
use Rattle.frame.specs.declared.refusal.Refusal.TheVariants.{EqualEnds}
use Rattle.frame.proofs.Frames.{equal_in}
use Rattle.frame.proofs.views.frames.judge_apart.Goals as goal

pub returns-then-ends : goal.returns-then-ends
returns-then-ends c =
    let bars = c.args.bars.now in
    let same : equal_ends bars c.loop-k.k ≡ true = equal_in (length bars / 2) bars c.loop-k.k [] true (omega arith) (rw (← c.as_chunks.ensures.front) (eq-eqb _ _ c.if-ends.true)) in
    ap (option_map (λ k. EqualEnds (record { 0 = k }))) (first_some (length bars / 2) (equal_ends bars) c.loop-k.k (omega arith) same c.loop-k.invariant)

pub loop-k-preserved : goal.loop-k-preserved
loop-k-preserved c =
    let bars = c.args.bars.now in
    below_more _ _ c.loop-k.invariant (equal_in (length bars / 2) bars c.loop-k.k [] false (omega arith) (rw (← c.as_chunks.ensures.front) (ne_eqb _ _ c.if-ends.false)))

pub returns : goal.returns
returns c =
    let bars = c.args.bars.now in
    ap (option_map (λ k. EqualEnds (record { 0 = k }))) (first_none (length bars / 2) (equal_ends bars) (λ i l. c.loop-k.invariant i (omega arith)))
