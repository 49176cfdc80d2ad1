use Rattle.std.proofs.Common.{ℕ, ◌<◌, false}
use Rattle.certificate.proofs.bars.first_bar.Given as goal

abbrev pub invariant-loop-k : goal.invariant-loop-k
invariant-loop-k g l = (i : ℕ) → i < l.k → goal.F-post g l.test (record { 0 = i }) false
