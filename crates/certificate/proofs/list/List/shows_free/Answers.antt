use Rattle.std.proofs.Common.{◌≡◌, ◌<◌, ◌/◌, true, Some, None, sym, ap, ◌∙◌, subst, below_more, arith}
use Rattle.std.proofs.Math.Nat.{mul-div_cancel}
use Rattle.std.proofs.lemmas.Bool.{false≢true}
use Rattle.sets.specs.Sets.{first}
use Rattle.frame.specs.Frame.{size}
use Rattle.frame.specs.Views.{frame_of, set_of}
use Rattle.certificate.specs.Lists.{width, row_of, crowded, list_in}
use Rattle.certificate.proofs.Cuts.{Next, cut_next, cut_all}
use Rattle.certificate.proofs.Listed.{first_in_row, shown, not_shown}
use Rattle.certificate.proofs.Orientations.{lists_right}
use Rattle.certificate.proofs.list.List.shows_free.Goals as goal

pub rows-preserved-then-not-contains : goal.rows-preserved-then-not-contains
rows-preserved-then-not-contains c =
    let f = frame_of c.args.self.now.frame in
    let list = c.args.self.now.numbers.now in
    let n = c.rows.k-iterator.count in
    let step = c.in-Some.ensures.steps in
    let inv = c.rows.invariant in
    let next : Next (width f) n list c.in-Some.numbers.now c.next.new.self.iter.rest.now = cut_next inv.2 step.0.1.0 (step.0.1.1 ∙ inv.3) in
    rw step.2 (inv.0, below_more _ n inv.1 (λ here. absurd (false≢true (c.if-not-contains.ensures ∙ ap (set_of c.args.set.now) step.1 ∙ here))), next.more, step.0.0 ∙ inv.3)

pub rows-preserved : goal.rows-preserved
rows-preserved c =
    let f = frame_of c.args.self.now.frame in
    let bars = set_of c.args.set.now in
    let list = c.args.self.now.numbers.now in
    let n = c.rows.k-iterator.count in
    let step = c.in-Some.ensures.steps in
    let inv = c.rows.invariant in
    let next : Next (width f) n list c.in-Some.numbers.now c.next.new.self.iter.rest.now = cut_next inv.2 step.0.1.0 (step.0.1.1 ∙ inv.3) in
    let row : c.in-Some.numbers.now ≡ row_of (width f) list c.in-Some.k = next.row_is ∙ ap (row_of (width f) list) (sym step.1) in
    let none = first_in_row f bars list c.in-Some.numbers.now c.in-Some.k None row c.in_default.ensures in
    rw step.2 (inv.0, below_more _ n inv.1 (λ _. subst (λ i. first f.joints (crowded f bars i (list_in f list i)) ≡ None) step.1 none), next.more, step.0.0 ∙ inv.3)

pub returns-in-None : goal.returns-in-None
returns-in-None c =
    let f = frame_of c.args.self.now.frame in
    let bars = set_of c.args.set.now in
    let list = c.args.self.now.numbers.now in
    let inv = c.rows.invariant in
    let wide : 0 < width f = omega arith in
    let all : c.rows.k-iterator.count ≡ size f =
    cut_all wide inv.2 (omega (arith, c.in-None.ensures.steps.0.1.0, inv.3)) ∙ ap (λ x. x / width f) c.args.self.now.whole ∙ mul-div_cancel (size f) wide in
    let kept = shown f bars list (λ k l b. inv.1 k (omega (arith, all, l)) b) in
    rw inv.0 (kept, lists_right f bars (list_in f list) c.args.self.now.frame.allowed.sound kept)

pub returns-in-Some-overfull_joint : goal.returns-in-Some-overfull_joint
returns-in-Some-overfull_joint c =
    let f = frame_of c.args.self.now.frame in
    let bars = set_of c.args.set.now in
    let list = c.args.self.now.numbers.now in
    let n = c.rows.k-iterator.count in
    let step = c.in-Some.ensures.steps in
    let inv = c.rows.invariant in
    let next : Next (width f) n list c.in-Some.numbers.now c.next.new.self.iter.rest.now = cut_next inv.2 step.0.1.0 (step.0.1.1 ∙ inv.3) in
    let wide : 0 < width f = omega arith in
    let all = ap (λ x. x / width f) c.args.self.now.whole ∙ mul-div_cancel (size f) wide in
    let within : c.in-Some.k < size f = omega (arith, next.inside wide, all, step.1) in
    let row : c.in-Some.numbers.now ≡ row_of (width f) list c.in-Some.k = next.row_is ∙ ap (row_of (width f) list) (sym step.1) in
    let joint = first_in_row f bars list c.in-Some.numbers.now c.in-Some.k (Some c.in-Some-overfull_joint.joint.0) row c.in-Some-overfull_joint.ensures in
    let in_set : bars c.in-Some.k ≡ true = sym c.if-not-contains.ensures in
    (record { row = (within, in_set); joint = joint; before = λ i l. inv.1 i (omega (arith, l, step.1)) }, not_shown f bars (list_in f list) c.in-Some.k c.in-Some-overfull_joint.joint.0 within in_set joint)
