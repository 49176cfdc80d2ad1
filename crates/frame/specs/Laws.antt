-- Laws of frames and of free sets, each named by the contract of a function. Assumes nothing: these are statements.
use Rattle.std.specs.Prelude.{◌≡◌, ℕ, ◌+◌, ◌*◌, ◌<◌, ◌≤◌, true, ◌↔◌, List, [], ◌∷◌, ◌++◌}
use Rattle.sets.specs.Sets.{Set, none, below, both, either, count}
use Rattle.frame.specs.Frame.{Bar, Frame, Sound, size, among, induced, Free, Part, Most, Holds}

-- the bars among the union of two groups of joints, and those among the intersection, are together at least the bars among each.
-- In the field: the number of induced edges is supermodular
abbrev pub Supermodular : Type 0
Supermodular = (f : Frame) (js is bs : Set) → induced f js bs + induced f is bs ≤ induced f (either js is) bs + induced f (both js is) bs

-- the count of a whole frame of n joints: a free set has at most 2n - 3 bars. A set with no bar is free
abbrev pub Bounded : Type 0
Bounded = (f : Frame) (bs : Set) → Sound f → 2 ≤ f.joints → Free f bs → count (size f) bs + 3 ≤ 2 * f.joints

abbrev pub EmptyFree : Type 0
EmptyFree = (f : Frame) → Free f none

-- a frame to which bars are appended
abbrev pub with_more : Frame → List Bar → Frame
with_more f more = record { joints = f.joints; bars = f.bars ++ more }

-- a set of bars of the frame alone
abbrev pub Only : Frame → Set → Type 0
Only f bs = (k : ℕ) → bs k ≡ true → k < size f

-- two frames agree on a set xs of bars: how many it has, in all and among some joints, whether it is a part of bs, whether it is free, and
-- whether it is a largest free part of bs
pub record Unchanged (f g : Frame) (bs xs : Set) : Type 0 where
  pub counted : count (size g) xs ≡ count (size f) xs
  pub same_among : (js : Set) (k : ℕ) → among g js xs k ≡ among f js xs k
  pub same_induced : (js : Set) → induced g js xs ≡ induced f js xs
  pub same_part : Part g xs bs ↔ Part f xs bs
  pub same_free : Free g xs ↔ Free f xs
  pub same_most : Most g bs xs ↔ Most f bs xs

-- to append bars to a frame changes nothing for sets of the bars that it had
abbrev pub Appending : Type 0
Appending = (f : Frame) (more : List Bar) (bs xs : Set) → Only f bs → Only f xs → Unchanged f (with_more f more) bs xs

-- three small frames: a triangle, a square, and a square with both diagonals
abbrev pub edge : ℕ → ℕ → Bar
edge i j = record { one = i; two = j }

abbrev pub triangle : Frame
triangle = record { joints = 3; bars = edge 0 1 ∷ (edge 1 2 ∷ (edge 0 2 ∷ [])) }

abbrev pub square : Frame
square = record { joints = 4; bars = edge 0 1 ∷ (edge 1 2 ∷ (edge 2 3 ∷ (edge 3 0 ∷ []))) }

abbrev pub crossed : Frame
crossed = with_more square (edge 0 2 ∷ (edge 1 3 ∷ []))

-- what the definitions say of them, each with all its bars
pub record SmallFrames : Type 0 where
  pub triangle_free : Free triangle (below 3)
  pub triangle_holds : Holds triangle (below 3)
  pub square_free : Free square (below 4)
  pub square_folds : Holds square (below 4) → ⊥
  pub crossed_not_free : Free crossed (below 6) → ⊥
