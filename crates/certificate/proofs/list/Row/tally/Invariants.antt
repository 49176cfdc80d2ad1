use Rattle.frame.specs.Views.{frame_of, set_of}
use Rattle.certificate.proofs.Tallies.{Tallied}
use Rattle.certificate.proofs.list.Row.tally.Given as goal

abbrev pub invariant-loop-i : goal.invariant-loop-i
invariant-loop-i l = Tallied (frame_of l.self.frame) (set_of l.set) l.self.own.0 l.self.numbers.now l.i l.counts
