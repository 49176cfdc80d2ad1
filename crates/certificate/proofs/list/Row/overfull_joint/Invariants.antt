use Rattle.std.proofs.Common.{◌≡◌, ℕ, ◌<◌, ◌≤◌, get_or, None}
use Rattle.certificate.proofs.list.Row.overfull_joint.Given as goal

abbrev pub invariant-joints : goal.invariant-joints
invariant-joints l = (l.found ≡ None) × ((j : ℕ) → j < l.joint → get_or l.given-items j 0 ≤ 2)
