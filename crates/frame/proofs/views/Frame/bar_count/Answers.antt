use Rattle.std.proofs.Common.{sym}
use Rattle.frame.proofs.Frames.{size_in}
use Rattle.frame.proofs.views.Frame.bar_count.Goals as goal

pub returns : goal.returns
returns c = sym (size_in c.args.self.now.bars.now)
