-- To append bars to a frame changes nothing for sets of the bars that it had.
use Rattle.frame.proofs.Appended.{appending}
use Rattle.frame.proofs.laws.appending_changes_nothing.Goals as goal

pub returns : goal.returns
returns c = appending
