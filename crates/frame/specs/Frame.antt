-- Frames of joints and bars in the plane, and which sets of bars are free, by a count. In the field: (2,3)-sparse multigraphs.
-- Assumes nothing: these are definitions.
use Rattle.std.specs.Prelude.{◌≡◌, ℕ, ◌+◌, ◌*◌, ◌<◌, ◌≤◌, true, ◌&&◌, List, length, Option, ◌≢◌, nat_lt, slice_index_or}
use Rattle.std.specs.Bool.{then_some}
use Rattle.sets.specs.Sets.{Set, count}

-- a bar, by the numbers of its two ends: an edge
pub record Bar : Type 0 where
  pub one : ℕ
  pub two : ℕ

-- what is read past the last bar; only bars below the size of the frame are ever counted
abbrev pub no_bar : Bar
no_bar = record { one = 0; two = 0 }

-- a frame: how many joints it has, numbered from 0, and its bars in order. Two bars may have the same two ends: a multigraph
pub record Frame : Type 0 where
  pub joints : ℕ
  pub bars : List Bar

-- how many bars a frame has
abbrev pub size : Frame → ℕ
size f = length f.bars

-- the bar of a number
abbrev pub bar_at : Frame → ℕ → Bar
bar_at f k = slice_index_or f.bars k no_bar

-- the bar of a number, or none past the frame
abbrev pub lookup : Frame → ℕ → Option Bar
lookup f k = then_some (nat_lt k (size f)) (bar_at f k)

-- every bar has two different joints, both of the frame
pub record Sound (f : Frame) : Type 0 where
  pub inside : (k : ℕ) → k < size f → ((bar_at f k).one < f.joints) × ((bar_at f k).two < f.joints)
  pub apart : (k : ℕ) → k < size f → (bar_at f k).one ≢ (bar_at f k).two

-- a frame that is looked at: a sound one with 2 to 512 joints and at most 2,048 bars
pub record Allowed (f : Frame) : Type 0 where
  pub sound : Sound f
  pub least_joints : 2 ≤ f.joints
  pub most_joints : f.joints ≤ 512
  pub most_bars : size f ≤ 2048

-- the bars of a set that are among some joints: both their ends are. In the field: the edges that the joints induce
unfoldable pub among : Frame → (joints bars : Set) → Set
among f js bs k = bs k && (js (bar_at f k).one && js (bar_at f k).two)

-- how many bars of a set are among some joints
abbrev pub induced : Frame → (joints bars : Set) → ℕ
induced f js bs = count (size f) (among f js bs)

-- a set of bars is free if any group of j ≥ 2 joints has at most 2j - 3 of its bars among them. In the field: (2,3)-sparse, or independent.
-- It is meant for sound frames: joints past the frame are not counted
unfoldable pub Free : Frame → (bars : Set) → Type 0
Free f bs = (js : Set) → 2 ≤ count f.joints js → induced f js bs + 3 ≤ 2 * count f.joints js

-- the bars of the first set are bars of the second
unfoldable pub Part : Frame → (part whole : Set) → Type 0
Part f xs bs = (k : ℕ) → k < size f → xs k ≡ true → bs k ≡ true

-- a largest free part of a set of bars: a free part than which no free part has more bars. In the field: a basis
pub record Most (f : Frame) (bs xs : Set) : Type 0 where
  pub part : Part f xs bs
  pub free : Free f xs
  pub most : (ys : Set) → Part f ys bs → Free f ys → count (size f) ys ≤ count (size f) xs

-- a set of bars holds a frame of n joints if a free part of it has 2n - 3 bars. In the field: it is rigid
unfoldable pub Holds : Frame → (bars : Set) → Type 0
Holds f bs = (xs : Set) × Part f xs bs × Free f xs × (count (size f) xs + 3 ≡ 2 * f.joints)
