use Rattle.pebble.proofs.Tightness.{unreaching_tight}
use Rattle.pebble.proofs.laws.unreaching_is_largest.Goals as goal

pub returns : goal.returns
returns c = unreaching_tight
