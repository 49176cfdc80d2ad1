-- The bound of free sets, and what the definitions say of three small frames.
use Rattle.std.proofs.Common.{◌≡◌, ℕ, ◌<◌, true, length, refl, arith}
use Rattle.std.proofs.lemmas.Bool.Decides.{nat_tests}
use Rattle.sets.specs.Sets.{none, below, count}
use Rattle.sets.proofs.Counts.{count_all, count_none, count_most}
use Rattle.frame.specs.Frame.{among, Free, Part, Holds}
use Rattle.frame.specs.Laws.{Bounded, EmptyFree, SmallFrames, triangle, square}
use Rattle.frame.proofs.Among.{induced_all, induced_most}

-- all joints are a group too, and all bars are among them
pub bounded : Bounded
unfolding Free
bounded f bs s two free =
    let all : (k : ℕ) → k < f.joints → true ≡ true = λ _ _. refl in
    omega (arith, free (λ _. true) (omega (arith, count_all f.joints (λ _. true) all)), count_all f.joints (λ _. true) all, induced_all f (λ _. true) bs s all)

pub empty_free : EmptyFree
unfolding Free
empty_free f js two = omega (arith, induced_most f js none, count_none (length f.bars) none (λ _ _. refl))

triangle_free : Free triangle (below 3)
unfolding Free among count
triangle_free js two = grind (arith, nat_tests)

square_free : Free square (below 4)
unfolding Free among count
square_free js two = grind (arith, nat_tests)

pub small_frames : SmallFrames
unfolding Free Part Holds among count
small_frames =
    record {
      triangle_free = triangle_free;
      triangle_holds = (below 3, λ k b e. e, triangle_free, refl);
      square_free = square_free;
      square_folds = λ h. omega (arith, count_most 4 h.0, h.3);
      crossed_not_free = λ free. omega (arith, free (λ _. true) (omega arith));
    }
