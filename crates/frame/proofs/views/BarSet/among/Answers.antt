use Rattle.std.proofs.Common.{◌≡◌, ◌/◌, ◌<◌, true, false, length, [], refl, ap, ◌∙◌, arith}
use Rattle.frame.specs.Frame.{size, among}
use Rattle.frame.specs.Views.{frame_of, set_of}
use Rattle.sets.specs.Sets.{count}
use Rattle.sets.specs.Words.{members}
use Rattle.sets.proofs.Counts.{count_step}
use Rattle.frame.proofs.Frames.{size_in, among_pair}
use Rattle.frame.proofs.views.BarSet.among.Goals as goal
use Rattle.frame.proofs.views.BarSet.among.Goals.{then-has_among, else-has_among}

pub overflow_cast-k : goal.overflow_cast-k
overflow_cast-k c = omega (arith, c.as_chunks.ensures.front_len, size_in c.args.frame.now.bars.now, c.args.frame.now.allowed.most_bars)

pub loop-k-init : goal.loop-k-init
unfolding count
loop-k-init c = (refl, omega arith)

pub loop-k-preserved : goal.loop-k-preserved
loop-k-preserved c =
    let frame = c.args.frame.now in
    let joints = members c.args.joints.now in
    let set = set_of c.args.self.now in
    let within : c.loop-k.k < length frame.bars.now / 2 = omega (arith, c.as_chunks.ensures.front_len, c.loop-k-test.true) in
    elim c.if-has_among.branch [
      | then-has_among w ↦
          let here = among_pair frame.joints frame.bars.now _ c.loop-k.k [] joints set true c.as_chunks.ensures.front within w.if-has_among.ensures in
          (omega (arith, w.total-is, count_step c.loop-k.k (among (frame_of frame) joints set) true here), omega (arith, w.total-is))
      | else-has_among w ↦
          let here = among_pair frame.joints frame.bars.now _ c.loop-k.k [] joints set false c.as_chunks.ensures.front within w.if-has_among.ensures in
          (omega (arith, w.total-is, count_step c.loop-k.k (among (frame_of frame) joints set) false here), omega (arith, w.total-is))
    ]

pub returns : goal.returns
returns c =
    let frame = c.args.frame.now in
    let all : c.loop-k.k ≡ size (frame_of frame) = omega (arith, c.as_chunks.ensures.front_len, size_in frame.bars.now, c.loop-k-test.false, c.loop-k.auto.k-end) in
    c.loop-k.invariant.0 ∙ ap (λ n. count n (among (frame_of frame) (members c.args.joints.now) (set_of c.args.self.now))) all
