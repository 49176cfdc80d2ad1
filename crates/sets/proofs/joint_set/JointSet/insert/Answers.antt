use Rattle.std.proofs.Common.{◌≡◌, length, arith}
use Rattle.std.proofs.lemmas.Bool.{lt-ltb}
use Rattle.sets.proofs.Words.{of_insert}
use Rattle.sets.proofs.joint_set.JointSet.insert.Goals as goal

pub returns : goal.returns
returns c =
    let eight : length c.args.self.now.words ≡ 8 = omega arith in
    record {
      value = rw (lt-ltb c.args.joint.0 512 c.if-joint-ge-CAPACITY.false, ← c.if-contains.ensures.value);
      after = λ h. of_insert c.args.self.now.words c.args.joint.0 (omega arith);
      past = λ h. absurd (omega arith);
    }
