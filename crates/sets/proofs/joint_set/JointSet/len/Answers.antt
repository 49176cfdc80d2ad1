use Rattle.std.proofs.Common.{refl, arith, rules}
use Rattle.sets.specs.Sets.{count}
use Rattle.sets.proofs.Words.{word_counted}
use Rattle.sets.proofs.joint_set.JointSet.len.Goals as goal

pub loop-word-init : goal.loop-word-init
unfolding count
loop-word-init c = (refl, omega arith)

pub loop-word-preserved : goal.loop-word-preserved
loop-word-preserved c = word_counted c.args.self.now.words c.loop-word.word-index c.loop-word.n _ (search rules) (omega arith) c.loop-word.invariant
