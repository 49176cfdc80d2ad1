use Rattle.std.proofs.Common.{rules}
use Rattle.frame.specs.Lent.{set_in}
use Rattle.frame.proofs.views.BarSet.contains.Goals as goal

pub returns : goal.returns
unfolding set_in
returns c = search rules
