use Rattle.std.proofs.Common.{◌≡◌, ◌≤◌}
use Rattle.frame.specs.Lent.{set_in}
use Rattle.sets.specs.Sets.{count}
use Rattle.frame.proofs.views.BarSet.len.Given as goal

abbrev pub invariant-loop-mark : goal.invariant-loop-mark
invariant-loop-mark l = (l.n ≡ count l.mark-index (set_in l.self.marks.now)) × (l.n ≤ l.mark-index)
