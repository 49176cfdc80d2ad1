use Rattle.std.proofs.Common.{ap, ◌∙◌, subst}
use Rattle.sets.specs.Sets.{count}
use Rattle.frame.specs.Views.{frame_of, marks_of, set_of}
use Rattle.certificate.specs.Sheets.{Bounds, sheet_in}
use Rattle.certificate.proofs.Together.{lies_in, largest, other_bound}
use Rattle.certificate.proofs.checkers.largest_verdict.Goals as goal

pub returns-in-Err : goal.returns-in-Err
returns-in-Err c =
    let f = frame_of c.args.frame.now in
    let bars = set_of c.args.set.now in
    let part = set_of c.args.part.now in
    (lies_in f bars part c.in_default.ensures, rw c.requires.list at c.in-Err.ensures)

pub returns-then-bound-size : goal.returns-then-bound-size
returns-then-bound-size c =
    let f = frame_of c.args.frame.now in
    let bars = set_of c.args.set.now in
    let part = set_of c.args.part.now in
    let s = sheet_in f c.args.sheet.now.groups.now (marks_of c.args.sheet.now.alone) in
    let lies = lies_in f bars part c.in_default.ensures in
    let shown = rw c.requires.list at c.in_default-shows_free.ensures in
    let bound = rw c.requires.sheet at c.in-Bound.ensures in
    let counted = c.len-size.ensures ∙ ap (λ n. count n part) c.requires.marks in
    (largest f bars part s c.in-Bound.bound lies shown.1 bound (c.if-bound-size.true ∙ counted), counted, shown.0, bound.0, subst (Bounds f s) c.if-bound-size.true bound.1)

pub returns-else-bound-size : goal.returns-else-bound-size
returns-else-bound-size c =
    let f = frame_of c.args.frame.now in
    let bars = set_of c.args.set.now in
    let part = set_of c.args.part.now in
    let shown = rw c.requires.list at c.in_default-shows_free.ensures in
    let counted = c.len-size.ensures ∙ ap (λ n. count n part) c.requires.marks in
    (lies_in f bars part c.in_default.ensures, shown.0, rw c.requires.sheet at c.in-Bound.ensures, other_bound c.in-Bound.bound _ c.len-size.result c.if-bound-size.false counted)

pub returns-in_default-shown : goal.returns-in_default-shown
returns-in_default-shown c =
    let f = frame_of c.args.frame.now in
    let bars = set_of c.args.set.now in
    let part = set_of c.args.part.now in
    let shown = rw c.requires.list at c.in_default-shows_free.ensures in
    (lies_in f bars part c.in_default.ensures, shown.0, rw c.requires.sheet at c.bounds-shown.ensures, c.in_default-shown.not-Bound _)
