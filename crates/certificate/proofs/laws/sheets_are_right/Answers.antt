use Rattle.certificate.proofs.Bounding.{sheets_right}
use Rattle.certificate.proofs.laws.sheets_are_right.Goals as goal

pub returns : goal.returns
returns c = sheets_right
