use Rattle.std.proofs.Common.{length, sym, arith}
use Rattle.std.proofs.lemmas.Bool.{lt-ltb}
use Rattle.frame.specs.Refusals.{no_mark}
use Rattle.sets.proofs.First.{first_some, first_none}
use Rattle.frame.proofs.rows.first_no_mark.Goals as goal

pub returns-then-number-gt-IN_SET : goal.returns-then-number-gt-IN_SET
returns-then-number-gt-IN_SET c =
    sym (first_some (length c.args.numbers.now) (no_mark c.args.numbers.now) c.loop-k.k (omega arith) (lt-ltb 1 _ c.if-number-gt-IN_SET.true) c.loop-k.invariant)

pub returns : goal.returns
returns c = sym (first_none (length c.args.numbers.now) (no_mark c.args.numbers.now) (λ i l. c.loop-k.invariant i (omega arith)))
