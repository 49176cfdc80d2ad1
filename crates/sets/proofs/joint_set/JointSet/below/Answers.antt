use Rattle.std.proofs.Common.{rules, arith}
use Rattle.sets.proofs.Words.{of_below}
use Rattle.sets.proofs.joint_set.JointSet.below.Goals as goal

pub returns : goal.returns
returns c = of_below c.args.n c.from_fn.result (omega arith) (λ k l i m. let called = (c.from_fn.ensures.items.at k 0 l).2 in search (rules, called))
