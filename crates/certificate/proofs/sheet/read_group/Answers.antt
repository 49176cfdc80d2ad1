use Rattle.std.proofs.Common.{ap, ◌∙◌, arith}
use Rattle.sets.specs.Sets.{also, below, both}
use Rattle.frame.specs.Lent.{set_in}
use Rattle.certificate.proofs.Groups.{read_more, read_skip, read_all}
use Rattle.certificate.proofs.sheet.read_group.Goals as goal
use Rattle.certificate.proofs.sheet.read_group.Goals.{then-mark-eq-IN_SET, else-mark-eq-IN_SET}
use Rattle.sets.specs.Words.{members}
use Rattle.std.proofs.lemmas.Bool.{eq-eqb, ne_eqb}

pub loop-j-preserved : goal.loop-j-preserved
unfolding set_in
loop-j-preserved c =
    elim c.if-mark-eq-IN_SET.branch [
      | then-mark-eq-IN_SET w ↦ ap members w.group-is ∙ w.insert.ensures.after (omega arith) ∙ ap (λ s. also s c.loop-j.j) c.loop-j.invariant ∙ read_more (set_in c.args.marks.now) c.loop-j.j (eq-eqb _ _ w.if-mark-eq-IN_SET.true)
      | else-mark-eq-IN_SET w ↦ ap members w.group-is ∙ c.loop-j.invariant ∙ read_skip (set_in c.args.marks.now) c.loop-j.j (ne_eqb _ _ w.if-mark-eq-IN_SET.false)
    ]

pub returns : goal.returns
returns c = c.loop-j.invariant ∙ ap (λ n. both (set_in c.args.marks.now) (below n)) (omega arith) ∙ read_all c.args.marks.now
