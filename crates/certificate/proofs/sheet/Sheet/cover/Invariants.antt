use Rattle.sets.specs.Words.{members}
use Rattle.frame.specs.Views.{frame_of}
use Rattle.certificate.proofs.Groups.{Covering}
use Rattle.certificate.proofs.sheet.Sheet.cover.Given as goal

abbrev pub invariant-loop-k : goal.invariant-loop-k
invariant-loop-k l = Covering (frame_of l.self.frame) (members l.group) l.initial.covered l.covered l.k
