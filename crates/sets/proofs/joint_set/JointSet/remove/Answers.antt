use Rattle.std.proofs.Common.{◌<◌, inl, inr, arith}
use Rattle.std.proofs.lemmas.Bool.{cases_lt, true≢false}
use Rattle.sets.proofs.Words.{of_remove}
use Rattle.sets.proofs.joint_set.JointSet.remove.Goals as goal

pub returns : goal.returns
returns c =
    let inside : c.args.joint.0 < 512 =
    elim (cases_lt c.args.joint.0 512) [ inl l ↦ l | inr g ↦ absurd (true≢false (c.if-not-contains.ensures.past g)) ] in
    record {
      value = c.if-not-contains.ensures.value;
      after = of_remove c.args.self.now.words c.args.joint.0 (omega arith);
    }
