use Rattle.std.proofs.Common.{arith, replicate, refl, sym}
use Rattle.frame.specs.Views.{frame_of, set_of}
use Rattle.frame.proofs.Frames.{untaken}
use Rattle.certificate.proofs.Tallies.{given_joint, tallied_none, tallied_skip, tallied_more, tallied_le, tallied_all}
use Rattle.certificate.proofs.list.Row.tally.Goals as goal
use Rattle.certificate.proofs.list.Row.tally.Goals.{in-Some, in_default}

pub loop-i-init : goal.loop-i-init
loop-i-init c = tallied_none (frame_of c.args.self.now.frame) (set_of c.args.set.now) c.args.self.now.own.0 c.args.self.now.numbers.now (replicate 512 0) refl

pub overflow_add-counts : goal.overflow_add-counts
overflow_add-counts c =
    let g = given_joint (frame_of c.args.self.now.frame) (set_of c.args.set.now) c.args.self.now.own.0 c.loop-i.i _ c.in-Some.joint.0 c.args.self.now.frame.allowed c.args.self.now.bar c.in-Some.ensures in
    omega (arith, c.args.self.now.whole, c.args.self.now.frame.allowed.most_bars, tallied_le (frame_of c.args.self.now.frame) (set_of c.args.set.now) c.args.self.now.own.0 c.args.self.now.numbers.now c.loop-i.i c.loop-i.counts c.in-Some.joint.0 c.loop-i.invariant g.2)

pub loop-i-preserved : goal.loop-i-preserved
loop-i-preserved c =
    elim c.match-given_to.branch [
      | in-Some w ↦
          (let g = given_joint (frame_of c.args.self.now.frame) (set_of c.args.set.now) c.args.self.now.own.0 c.loop-i.i _ w.in-Some.joint.0 c.args.self.now.frame.allowed c.args.self.now.bar w.in-Some.ensures in
          rw w.counts-is (tallied_more (frame_of c.args.self.now.frame) (set_of c.args.set.now) c.args.self.now.own.0 c.args.self.now.numbers.now c.loop-i.i w.in-Some.joint.0 c.loop-i.counts c.loop-i.invariant g.0 g.1 g.2))
      | in_default w ↦
          rw w.counts-is (tallied_skip (frame_of c.args.self.now.frame) (set_of c.args.set.now) c.args.self.now.own.0 c.args.self.now.numbers.now c.loop-i.i c.loop-i.counts c.loop-i.invariant (untaken _ _ (sym w.in_default.ensures)))
    ]

pub returns : goal.returns
returns c = tallied_all (frame_of c.args.self.now.frame) (set_of c.args.set.now) c.args.self.now.own.0 c.args.self.now.numbers.now c.loop-i.i c.loop-i.counts c.loop-i.invariant (omega (arith, c.args.self.now.whole))
