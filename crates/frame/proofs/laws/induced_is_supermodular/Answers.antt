-- The count of bars among joints is supermodular.
use Rattle.frame.proofs.Among.{supermodular}
use Rattle.frame.proofs.laws.induced_is_supermodular.Goals as goal

pub returns : goal.returns
returns c = supermodular
