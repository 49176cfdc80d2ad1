use Rattle.std.proofs.Common.{length, ap, arith}
use Rattle.std.proofs.lemmas.Bool.{le-leb}
use Rattle.std.specs.Option.{option_map}
use Rattle.frame.specs.Refusals.{past}
use Rattle.frame.specs.declared.refusal.Refusal.TheVariants.{JointPast}
use Rattle.sets.proofs.First.{first_some, first_none}
use Rattle.frame.proofs.views.frames.judge_ends.Goals as goal

pub returns-then-joint-joints : goal.returns-then-joint-joints
returns-then-joint-joints c =
    ap (option_map JointPast)
    (first_some (length c.args.bars.now) (past c.args.joints c.args.bars.now) c.loop-k.k (omega arith) (le-leb _ _ c.if-joint-joints.true) c.loop-k.invariant)

pub returns : goal.returns
returns c = ap (option_map JointPast) (first_none (length c.args.bars.now) (past c.args.joints c.args.bars.now) (λ i l. c.loop-k.invariant i (omega arith)))
