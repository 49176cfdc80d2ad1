use Rattle.sets.proofs.Counts.{counting}
use Rattle.sets.proofs.laws.counts_obey.Goals as goal

pub returns : goal.returns
returns c = counting
