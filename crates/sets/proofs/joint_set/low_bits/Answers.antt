use Rattle.std.proofs.Common.{◌-◌, sym, ap, ◌∙◌, arith}
use Rattle.std.proofs.lemmas.Nat.{one_shl}
use Rattle.std.proofs.lemmas.Bool.{lt-ltb}
use Rattle.sets.specs.Words.{bits}
use Rattle.sets.proofs.Words.{bits_ones}
use Rattle.sets.proofs.joint_set.low_bits.Goals as goal

pub returns-then-n-lt64 : goal.returns-then-n-lt64
returns-then-n-lt64 c i l = ap (λ x. bits (x - 1) i) (one_shl c.args.n 64 (omega arith)) ∙ bits_ones c.args.n i

pub returns-else-n-lt64 : goal.returns-else-n-lt64
returns-else-n-lt64 c i l = bits_ones 64 i ∙ lt-ltb i 64 l ∙ sym (lt-ltb i c.args.n (omega arith))
