use Rattle.std.proofs.Common.{◌≡◌, ap, ◌∙◌, subst, arith, replicate, take, false, length}
use Rattle.sets.specs.Sets.{count}
use Rattle.sets.specs.Words.{members}
use Rattle.sets.proofs.Counts.{count_most}
use Rattle.frame.specs.Frame.{size}
use Rattle.frame.specs.Lent.{set_in}
use Rattle.frame.specs.Views.{frame_of, marks_of, set_of}
use Rattle.certificate.specs.Sheets.{sheet_in}
use Rattle.certificate.proofs.Cuts.{Next, cut_none, cut_next, cut_all}
use Rattle.certificate.proofs.Surveys.{Surveyed, surveyed_none, surveyed_more, says_bound, says_uncovered, says_small, joints_read}
use Rattle.certificate.proofs.sheet.Sheet.bounds.Goals as goal

pub loop-g-init : goal.loop-g-init
loop-g-init c =
    let f = frame_of c.args.self.now.frame in
    let alone = c.len-bound.ensures ∙ ap (λ n. count n (set_of c.args.self.now.alone)) c.args.self.now.marks in
    rw (c.into_iter-g-iterator.ensures.into_iter_gives, c.enumerate-g-items.ensures.count, c.enumerate-g-items.ensures.source, c.chunks_exact.ensures.rest, c.chunks_exact.ensures.size) (
      surveyed_none f (sheet_in f c.args.self.now.groups.now (marks_of c.args.self.now.alone)) (take c.bar_count.result (replicate 2048 false)) c.len-bound.result (ap (λ n. take n (replicate 2048 false)) c.bar_count.ensures) c.args.self.now.frame.allowed.most_bars alone
          (omega (arith, alone, c.args.self.now.frame.allowed.most_bars, count_most (size f) (set_of c.args.self.now.alone))),
      cut_none c.args.self.now.frame.joints c.args.self.now.groups.now,
      c.joint_count-width.ensures,
    )

pub overflow_mul-bound : goal.overflow_mul-bound
overflow_mul-bound c = omega (arith, c.len-joints.ensures, count_most 512 (members c.read_group-group.result))

pub overflow_add-bound : goal.overflow_add-bound
overflow_add-bound c =
    let step = c.in-Some.ensures.steps in
    let inv = c.loop-g.invariant in
    let next : Next c.args.self.now.frame.joints c.loop-g.g-iterator.count c.args.self.now.groups.now c.in-Some.marks.now c.next.new.self.iter.rest.now = cut_next inv.1 step.0.1.0 (step.0.1.1 ∙ inv.2) in
    omega (arith, c.args.self.now.few, inv.0.small, next.inside (omega (arith, c.args.self.now.frame.allowed.least_joints)), c.len-joints.ensures, count_most 512 (members c.read_group-group.result))

pub loop-g-preserved : goal.loop-g-preserved
loop-g-preserved c =
    let f = frame_of c.args.self.now.frame in
    let groups = c.args.self.now.groups.now in
    let g = c.loop-g.g-iterator.count in
    let step = c.in-Some.ensures.steps in
    let inv = c.loop-g.invariant in
    let long : length c.in-Some.marks.now ≡ f.joints = step.0.1.1 ∙ inv.2 in
    let group = members c.read_group-group.result in
    let next : Next f.joints g groups c.in-Some.marks.now c.next.new.self.iter.rest.now = cut_next inv.1 step.0.1.0 long in
    let joints = joints_read c.in-Some.marks.now f.joints group c.read_group-group.ensures (omega (arith, long)) c.args.self.now.frame.allowed.most_joints in
    rw step.2 (
      surveyed_more f (sheet_in f groups (marks_of c.args.self.now.alone)) c.loop-g.covered c.cover.new.covered c.loop-g.bound g c.len-joints.result group inv.0 (c.read_group-group.ensures ∙ ap set_in next.row_is)
          (c.len-joints.ensures ∙ joints) c.if-joints-lt-LEAST_GROUP.false (omega (arith, c.len-joints.ensures, count_most 512 group)) c.cover.ensures,
      next.more,
      step.0.0 ∙ inv.2,
    )

pub returns-then-joints-lt-LEAST_GROUP : goal.returns-then-joints-lt-LEAST_GROUP
returns-then-joints-lt-LEAST_GROUP c =
    let f = frame_of c.args.self.now.frame in
    let groups = c.args.self.now.groups.now in
    let g = c.loop-g.g-iterator.count in
    let step = c.in-Some.ensures.steps in
    let inv = c.loop-g.invariant in
    let long : length c.in-Some.marks.now ≡ f.joints = step.0.1.1 ∙ inv.2 in
    let group = members c.read_group-group.result in
    let next : Next f.joints g groups c.in-Some.marks.now c.next.new.self.iter.rest.now = cut_next inv.1 step.0.1.0 long in
    let joints = joints_read c.in-Some.marks.now f.joints group c.read_group-group.ensures (omega (arith, long)) c.args.self.now.frame.allowed.most_joints in
    rw step.1 (says_small f (set_of c.args.set.now) (sheet_in f groups (marks_of c.args.self.now.alone)) c.loop-g.covered c.loop-g.bound g inv.0 (next.inside (omega (arith, c.args.self.now.frame.allowed.least_joints)))
    (omega (arith, c.if-joints-lt-LEAST_GROUP.true, c.len-joints.ensures ∙ joints ∙ ap (count f.joints) (c.read_group-group.ensures ∙ ap set_in next.row_is))))

pub returns-in-Some-first_uncovered : goal.returns-in-Some-first_uncovered
returns-in-Some-first_uncovered c =
    let f = frame_of c.args.self.now.frame in
    let s = sheet_in f c.args.self.now.groups.now (marks_of c.args.self.now.alone) in
    let step = c.in-None.ensures.steps in
    let inv = c.loop-g.invariant in
    let all = cut_all (omega (arith, c.args.self.now.frame.allowed.least_joints)) inv.1 (omega (arith, step.0.1.0, inv.2)) in
    says_uncovered f (set_of c.args.set.now) s c.loop-g.covered c.loop-g.bound c.in-Some-first_uncovered.bar.0 (subst (Surveyed f s c.loop-g.covered c.loop-g.bound) all inv.0) c.in-Some-first_uncovered.ensures

pub returns-in-None-first_uncovered : goal.returns-in-None-first_uncovered
returns-in-None-first_uncovered c =
    let f = frame_of c.args.self.now.frame in
    let s = sheet_in f c.args.self.now.groups.now (marks_of c.args.self.now.alone) in
    let step = c.in-None.ensures.steps in
    let inv = c.loop-g.invariant in
    let all = cut_all (omega (arith, c.args.self.now.frame.allowed.least_joints)) inv.1 (omega (arith, step.0.1.0, inv.2)) in
    says_bound f (set_of c.args.set.now) s c.loop-g.covered c.loop-g.bound (subst (Surveyed f s c.loop-g.covered c.loop-g.bound) all inv.0) c.in-None-first_uncovered.ensures
