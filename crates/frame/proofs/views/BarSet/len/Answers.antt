use Rattle.std.proofs.Common.{true, false, sym, refl, arith}
use Rattle.std.proofs.lemmas.Bool.{eq-eqb, ne_eqb}
use Rattle.frame.specs.Lent.{set_in}
use Rattle.sets.specs.Sets.{count}
use Rattle.sets.proofs.Counts.{count_step}
use Rattle.frame.proofs.views.BarSet.len.Goals as goal
use Rattle.frame.proofs.views.BarSet.len.Goals.{then-mark-eq-IN_SET, else-mark-eq-IN_SET}

pub loop-mark-init : goal.loop-mark-init
unfolding count
loop-mark-init c = (refl, omega arith)

pub loop-mark-preserved : goal.loop-mark-preserved
unfolding set_in
loop-mark-preserved c =
    elim c.if-mark-eq-IN_SET.branch [
      | then-mark-eq-IN_SET w ↦
          (omega (arith, w.n-is, count_step c.loop-mark.mark-index (set_in c.args.self.now.marks.now) true (sym (eq-eqb _ 1 w.if-mark-eq-IN_SET.true))), omega (arith, w.n-is))
      | else-mark-eq-IN_SET w ↦
          (omega (arith, w.n-is, count_step c.loop-mark.mark-index (set_in c.args.self.now.marks.now) false (sym (ne_eqb _ 1 w.if-mark-eq-IN_SET.false))), omega (arith, w.n-is))
    ]
