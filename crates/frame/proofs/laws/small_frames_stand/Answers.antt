use Rattle.frame.proofs.Small.{small_frames}
use Rattle.frame.proofs.laws.small_frames_stand.Goals as goal

pub returns : goal.returns
returns c = small_frames
