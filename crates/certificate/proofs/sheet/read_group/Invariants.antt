use Rattle.std.proofs.Common.{◌≡◌}
use Rattle.sets.specs.Sets.{below, both}
use Rattle.sets.specs.Words.{members}
use Rattle.frame.specs.Lent.{set_in}
use Rattle.certificate.proofs.sheet.read_group.Given as goal

abbrev pub invariant-loop-j : goal.invariant-loop-j
invariant-loop-j l = members l.group ≡ both (set_in l.marks) (below l.j)
