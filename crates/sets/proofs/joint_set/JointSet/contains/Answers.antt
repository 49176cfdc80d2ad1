use Rattle.std.proofs.Common.{◌≡◌, ◌/◌, ◌%◌, ◌^◌, length, false, eqb, get_or, bit_and, sym, ◌∙◌, inl, inr, rules}
use Rattle.std.proofs.lemmas.Bool.{cases_lt}
use Rattle.sets.specs.Words.{bits_of}
use Rattle.sets.proofs.Words.{bits_read, of_past}
use Rattle.sets.proofs.joint_set.JointSet.contains.Goals as goal

pub returns-clause-value : goal.returns-clause-value
unfolding bits_of
returns-clause-value c =
    let ws = c.args.self.now.words in
    let j = c.args.joint.0 in
    elim (cases_lt (j / 64) (length ws)) [
      | inl l ↦ let read : c.is_some_and.result ≡ eqb (bit_and (get_or ws (j / 64) 0 / 2 ^ (j % 64)) 1) 1 = search rules in read ∙ bits_read _ _
      | inr g ↦ let past : c.is_some_and.result ≡ false = search rules in past ∙ sym (of_past ws j g)
    ]
