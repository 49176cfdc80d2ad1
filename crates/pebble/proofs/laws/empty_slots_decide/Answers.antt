use Rattle.pebble.proofs.Tightness.{three_gather, reached_tight, four_free}
use Rattle.pebble.proofs.laws.empty_slots_decide.Goals as goal

pub returns : goal.returns
returns c = (three_gather, reached_tight, four_free)
