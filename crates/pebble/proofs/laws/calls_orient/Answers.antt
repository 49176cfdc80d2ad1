use Rattle.pebble.proofs.Bars.{nothing_oriented, moves_orient, put_orients, take_orients}
use Rattle.pebble.proofs.laws.calls_orient.Goals as goal

pub returns : goal.returns
returns c = (nothing_oriented, moves_orient, put_orients, take_orients)
