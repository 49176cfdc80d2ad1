use Rattle.std.proofs.Common.{◌≡◌, ◌*◌, ◌≤◌}
use Rattle.sets.specs.Sets.{count}
use Rattle.sets.specs.Words.{members}
use Rattle.sets.proofs.joint_set.JointSet.len.Given as goal

abbrev pub invariant-loop-word : goal.invariant-loop-word
invariant-loop-word l = (l.n ≡ count (64 * l.word-index) (members l.self)) × (l.n ≤ 64 * l.word-index)
