use Rattle.std.proofs.Common.{◌≡◌, ◌≤◌}
use Rattle.frame.specs.Views.{frame_of, set_of}
use Rattle.frame.specs.Frame.{among}
use Rattle.sets.specs.Sets.{count}
use Rattle.sets.specs.Words.{members}
use Rattle.frame.proofs.views.BarSet.among.Given as goal

abbrev pub invariant-loop-k : goal.invariant-loop-k
invariant-loop-k l = (l.total ≡ count l.k (among (frame_of l.frame) (members l.joints) (set_of l.self))) × (l.total ≤ l.k)
