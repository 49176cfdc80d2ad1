use Rattle.std.proofs.Common.{rules}
use Rattle.sets.proofs.joint_set.JointSet.by_word.Goals as goal

pub returns : goal.returns
returns g c k l = let h = c.from_fn.ensures.items.at k 0 l in let called = h.2 in search (rules, called)
