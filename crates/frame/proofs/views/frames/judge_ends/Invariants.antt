use Rattle.std.proofs.Common.{◌≡◌, ℕ, ◌<◌, false}
use Rattle.frame.specs.Refusals.{past}
use Rattle.frame.proofs.views.frames.judge_ends.Given as goal

abbrev pub invariant-loop-k : goal.invariant-loop-k
invariant-loop-k l = (i : ℕ) → i < l.k → past l.joints l.bars i ≡ false
