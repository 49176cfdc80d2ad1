use Rattle.std.proofs.Common.{true, false, sym, arith}
use Rattle.frame.specs.Frame.{size}
use Rattle.frame.specs.Views.{frame_of}
use Rattle.sets.proofs.First.{first_some, first_none}
use Rattle.certificate.proofs.bars.first_bar.Goals as goal

pub returns-then-test : goal.returns-then-test
returns-then-test g c s decides =
    let n = size (frame_of c.args.frame.now) in
    sym (first_some n s c.loop-k.k (omega arith) (sym (decides (record { 0 = c.loop-k.k }) true (omega arith) c.if-test.ensures)) (λ i l. sym (decides (record { 0 = i }) false (omega arith) (c.loop-k.invariant i l))))

pub returns : goal.returns
returns g c s decides = sym (first_none (size (frame_of c.args.frame.now)) s (λ i l. sym (decides (record { 0 = i }) false l (c.loop-k.invariant i (omega arith)))))
