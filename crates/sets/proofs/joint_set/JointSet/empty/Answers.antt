use Rattle.sets.proofs.Words.{of_zeros}
use Rattle.sets.proofs.joint_set.JointSet.empty.Goals as goal

pub returns : goal.returns
returns c = of_zeros 8
