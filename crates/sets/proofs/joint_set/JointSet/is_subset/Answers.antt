use Rattle.std.proofs.Common.{◌≡◌, length, slice_index, rules, refl, sym, arith}
use lib.Bits.{bit_or}
use Rattle.std.proofs.lemmas.Bool.{false≢true}
use Rattle.std.proofs.lemmas.Slice.Zip.{zip_turn, zip_end}
use Rattle.sets.proofs.Words.{of_within, within_of}
use Rattle.sets.proofs.joint_set.JointSet.is_subset.Goals as goal

pub returns-then-a-b : goal.returns-then-a-b
returns-then-a-b c =
    let xs = c.args.self.now.words in
    let ys = c.args.other.now.words in
    let k = length c.loop-a.yielded in
    let turn = zip_turn xs ys c.loop-a.yielded c.into_iter-a-iterator.result c.loop-a.a-iterator c.next.new.self c.next.result (search rules) (search rules) c.loop-a.yielded_by (c.in-Some.a, c.in-Some.b) c.in-Some.is c.next.ensures.steps in
    let x : c.in-Some.a.now ≡ slice_index xs k = turn.2 0 in
    let y : c.in-Some.b.now ≡ slice_index ys k = turn.3 0 in
    let differ : bit_or (slice_index xs k) (slice_index ys k) ≡ slice_index ys k → ⊥ = rw (sym x, sym y) c.if-a-b.true in
    (λ e. absurd (false≢true e), λ h. absurd (differ (within_of xs ys k (omega arith) (omega arith) h)))

pub returns : goal.returns
returns c =
    let xs = c.args.self.now.words in
    let ys = c.args.other.now.words in
    let all = zip_end xs ys c.loop-a.yielded c.into_iter-a-iterator.result c.loop-a.a-iterator c.next.new.self c.next.result (search rules) (search rules) c.loop-a.yielded_by c.in-None.is c.next.ensures.steps in
    (λ _. of_within xs ys (length c.loop-a.yielded) (omega arith) c.loop-a.invariant, λ _. refl)
