use Rattle.std.proofs.Common.{◌≡◌, ℕ, ◌<◌, false}
use Rattle.frame.specs.Refusals.{no_mark}
use Rattle.frame.proofs.rows.first_no_mark.Given as goal

abbrev pub invariant-loop-k : goal.invariant-loop-k
invariant-loop-k l = (i : ℕ) → i < l.k → no_mark l.numbers i ≡ false
