use Rattle.std.proofs.Common.{◌≡◌, ℕ, ◌<◌, length, slice_index}
use lib.Bits.{bit_or}
use Rattle.sets.proofs.joint_set.JointSet.is_subset.Given as goal

abbrev pub invariant-loop-a : goal.invariant-loop-a
invariant-loop-a l = (k : ℕ) → k < length l.yielded → bit_or (slice_index l.self.words k) (slice_index l.other.words k) ≡ slice_index l.other.words k
