use Rattle.std.proofs.Common.{sym, arith}
use Rattle.sets.proofs.Words.{of_first, of_first_none}
use Rattle.sets.proofs.joint_set.JointSet.first.Goals as goal

pub returns-then-word-ne0 : goal.returns-then-word-ne0
returns-then-word-ne0 c = sym (of_first c.args.self.now.words c.loop-k.k (omega arith) (omega arith) (omega arith) c.loop-k.invariant)

pub returns : goal.returns
returns c = sym (of_first_none c.args.self.now.words (λ i l. c.loop-k.invariant i (omega arith)))
