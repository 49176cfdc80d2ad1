use Rattle.pebble.proofs.Tightness.{three_always, fourth_fails, fourth_frees, fourth_spoils}
use Rattle.pebble.proofs.laws.gathering_decides.Goals as goal

pub returns : goal.returns
returns c = (three_always, fourth_fails, fourth_frees, fourth_spoils)
