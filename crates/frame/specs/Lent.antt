-- What lent numbers mean, as a frame and as a set of bars. Assumes nothing: these are definitions.
use Rattle.std.specs.Prelude.{ℕ, ◌+◌, ◌*◌, ◌/◌, List, map, length, ◌==◌, slice_index}
use Rattle.std.specs.List.{range_with_len}
use Rattle.sets.specs.Sets.{Set}
use Rattle.frame.specs.Frame.{Bar, Frame}

-- bar k has the two numbers at 2k and 2k + 1
unfoldable pub bars_in : List ℕ → List Bar
bars_in xs = map (λ k. record { one = slice_index xs (2 * k); two = slice_index xs (2 * k + 1) }) (range_with_len 0 (length xs / 2))

-- the frame that a number of joints and the numbers of the bars mean
abbrev pub frame_in : ℕ → List ℕ → Frame
frame_in joints xs = record { joints = joints; bars = bars_in xs }

-- the set that marks mean: the places that have 1
unfoldable pub set_in : List ℕ → Set
set_in marks k = slice_index marks k == 1
