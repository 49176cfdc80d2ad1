use Rattle.certificate.proofs.Orientations.{lists_right}
use Rattle.certificate.proofs.laws.lists_are_right.Goals as goal

pub returns : goal.returns
returns c = lists_right
