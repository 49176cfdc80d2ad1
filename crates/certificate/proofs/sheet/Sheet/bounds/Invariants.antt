use Rattle.std.proofs.Common.{◌≡◌}
use Rattle.frame.specs.Views.{frame_of, marks_of}
use Rattle.certificate.specs.Sheets.{sheet_in}
use Rattle.certificate.proofs.Cuts.{Cut}
use Rattle.certificate.proofs.Surveys.{Surveyed}
use Rattle.certificate.proofs.sheet.Sheet.bounds.Given as goal

abbrev pub invariant-loop-g : goal.invariant-loop-g
invariant-loop-g l =
    Surveyed (frame_of l.self.frame) (sheet_in (frame_of l.self.frame) l.self.groups.now (marks_of l.self.alone)) l.covered l.bound l.g-iterator.count
    × Cut l.self.frame.joints l.g-iterator.count l.self.groups.now l.g-iterator.iter.rest.now
    × (l.g-iterator.iter.size ≡ l.self.frame.joints)
