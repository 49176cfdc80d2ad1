use Rattle.std.proofs.Common.{◌≡◌, ℕ, ◌<◌, false}
use Rattle.frame.specs.Refusals.{equal_ends}
use Rattle.frame.proofs.views.frames.judge_apart.Given as goal

abbrev pub invariant-loop-k : goal.invariant-loop-k
invariant-loop-k l = (i : ℕ) → i < l.k → equal_ends l.bars i ≡ false
