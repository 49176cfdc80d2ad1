use Rattle.std.proofs.Common.{◌<◌, Some, ap, sym, arith}
use Rattle.std.proofs.lemmas.Bool.{lt-ltb}
use Rattle.frame.specs.Frame.{size}
use Rattle.frame.specs.Views.{frame_of}
use Rattle.frame.proofs.Frames.{size_in, bar_in}
use Rattle.frame.proofs.views.Frame.ends.Goals as goal

pub bounds-self-k : goal.bounds-self-k
bounds-self-k c = omega (arith, size_in c.args.self.now.bars.now)

pub bounds-self-k-2 : goal.bounds-self-k-2
bounds-self-k-2 c = omega (arith, size_in c.args.self.now.bars.now)

pub returns : goal.returns
returns c =
    let within : c.args.bar.0 < size (frame_of c.args.self.now) = omega arith in
    rw (lt-ltb c.args.bar.0 (size (frame_of c.args.self.now)) within) (ap Some (sym (bar_in c.args.self.now.bars.now c.args.bar.0 (omega (arith, size_in c.args.self.now.bars.now)))))
