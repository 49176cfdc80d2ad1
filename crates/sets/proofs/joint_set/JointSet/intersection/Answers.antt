use Rattle.std.proofs.Common.{◌&&◌, refl, rules, arith}
use lib.Bits.{bit_and}
use Rattle.sets.proofs.Words.{bits_and, of_each}
use Rattle.sets.proofs.joint_set.JointSet.intersection.Goals as goal

pub returns : goal.returns
returns c = of_each bit_and ◌&&◌ bits_and refl c.args.self.now.words c.args.other.now.words c.by_word.result.words 8 (omega arith) (omega arith) (omega arith) (λ k l. let word = c.by_word.ensures k l in search (rules, word))
