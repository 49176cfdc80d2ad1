use Rattle.frame.proofs.Frames.{allowed_in}
use Rattle.frame.proofs.views.Frame.new.Goals as goal

pub invariant_of-result : goal.invariant_of-result
invariant_of-result c = record { allowed = allowed_in c.args.joints c.args.bars.now c.in_ok-judge_joints.ensures c.in_ok-judge_numbers.ensures c.in_ok-judge_ends.ensures c.in_ok-judge_apart.ensures }
