use Rattle.std.proofs.Common.{◌≡◌, ℕ, ◌<◌, get_or, take, length-take, sym, ap, ◌∙◌, arith}
use Rattle.std.proofs.lemmas.Bool.{lt-ltb, le-ltb}
use Rattle.std.proofs.lemmas.List.{get_or-take}
use Rattle.std.specs.Option.{option_map}
use Rattle.sets.proofs.First.{first_some, first_none}
use Rattle.frame.specs.Views.{frame_of, set_of}
use Rattle.certificate.specs.Lists.{given, crowded, row_in}
use Rattle.certificate.proofs.list.Row.overfull_joint.Goals as goal

pub returns-then-given-gt-MOST_GIVEN : goal.returns-then-given-gt-MOST_GIVEN
returns-then-given-gt-MOST_GIVEN c =
    let row = c.args.self.now in
    let f = frame_of row.frame in
    let n = c.joint_count-joints.result in
    let items = given f (set_of c.args.set.now) row.own.0 (row_in f row.own.0 row.numbers.now) in
    let same : (j : ℕ) → j < n → get_or (take n c.tally-counts.result) j 0 ≡ items j = λ j l. get_or-take n c.tally-counts.result j 0 l ∙ c.tally-counts.ensures j (omega arith) in
    let long = length-take n c.tally-counts.result in
    sym (first_some f.joints (crowded f (set_of c.args.set.now) row.own.0 (row_in f row.own.0 row.numbers.now)) c.joints.joint
    (omega (arith, long)) (lt-ltb 2 _ (omega (arith, same c.joints.joint (omega (arith, long))))) (λ j l. le-ltb 2 _ (omega (arith, c.joints.invariant.1 j l, same j (omega arith)))))

pub returns-after-joints : goal.returns-after-joints
returns-after-joints c =
    let row = c.args.self.now in
    let f = frame_of row.frame in
    let n = c.joint_count-joints.result in
    let items = given f (set_of c.args.set.now) row.own.0 (row_in f row.own.0 row.numbers.now) in
    let same : (j : ℕ) → j < n → get_or (take n c.tally-counts.result) j 0 ≡ items j = λ j l. get_or-take n c.tally-counts.result j 0 l ∙ c.tally-counts.ensures j (omega arith) in
    let long = length-take n c.tally-counts.result in
    ap (option_map (λ j. j.0)) c.joints.invariant.0
    ∙ sym
    (first_none f.joints (crowded f (set_of c.args.set.now) row.own.0 (row_in f row.own.0 row.numbers.now)) (λ j l. le-ltb 2 _ (omega (arith, c.joints.invariant.1 j (omega (arith, long)), same j (omega arith)))))
