use Rattle.frame.proofs.Small.{bounded, empty_free}
use Rattle.frame.proofs.laws.free_is_bounded.Goals as goal

pub returns : goal.returns
returns c = (bounded, empty_free)
