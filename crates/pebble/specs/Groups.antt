-- Groups of joints on a board: closed and full but for two joints, the least and the largest such, and how a set of bars of a frame lies on
-- a board. Assumes nothing: these are definitions.
use Rattle.std.specs.Prelude.{◌≡◌, ℕ, ◌+◌, ◌*◌, ◌<◌, ◌≤◌, true, ◌≢◌}
use Rattle.sets.specs.Sets.{Set, Within, count}
use Rattle.frame.specs.Frame.{Frame, size, bar_at, induced}
use Rattle.frame.specs.Views.{bar_of}
use Rattle.pebble.specs.declared.item.Item.{Item}
use Rattle.pebble.specs.Slots.{Slots, Lies, Settled, Closed, name, room}

-- no item leads out of the group, and it has no empty slot but at u and v
pub record Shut (n : ℕ) (slots : Slots) (u v : ℕ) (group : Set) : Type 0 where
  pub closed : Closed slots group
  pub full : (j : ℕ) → j < n → group j ≡ true → (j ≢ u) → (j ≢ v) → room slots j ≡ 0

-- the joints that are reached from u and v along items, where no empty slot is reached but at u and v: the least group with u and v from
-- which no item leads out. In the field: the reach of u and v
pub record Reached (n : ℕ) (slots : Slots) (u v : ℕ) (group : Set) : Type 0 where
  pub shut : Shut n slots u v group
  pub has_u : group u ≡ true
  pub has_v : group v ≡ true
  pub least : (js : Set) → Closed slots js → js u ≡ true → js v ≡ true → Within group js

-- the joints from which no empty slot is reached but at u and v: the largest group that is shut
pub record Unreaching (n : ℕ) (slots : Slots) (u v : ℕ) (group : Set) : Type 0 where
  pub shut : Shut n slots u v group
  pub inside : (j : ℕ) → group j ≡ true → j < n
  pub largest : (js : Set) → Shut n slots u v js → (j : ℕ) → j < n → js j ≡ true → group j ≡ true

-- the bars of a set lie on a board: each in one slot, at one of its ends, with the ends that it has in the frame; and nothing else lies there. In
-- the field: an orientation of the bars in which no joint has more than two arcs into it
pub record Oriented (f : Frame) (bars : Set) (slots : Slots) : Type 0 where
  pub settled : Settled f.joints slots
  pub items : (s : ℕ) (x : Item) → Lies slots s x → (name x < size f) × (bars (name x) ≡ true) × (bar_of x.ends ≡ bar_at f (name x))
  pub all : (k : ℕ) → k < size f → bars k ≡ true → (s : ℕ) × (x : Item) × Lies slots s x × (name x ≡ k)

-- a tight group of a set of bars: j ≥ 2 joints with just 2j - 3 bars of the set among them. In the field: (2,3)-tight, or a block
pub record Tight (f : Frame) (bars group : Set) : Type 0 where
  pub several : 2 ≤ count f.joints group
  pub exact : induced f group bars + 3 ≡ 2 * count f.joints group

-- a tight group with both u and v
pub record TightWith (f : Frame) (bars : Set) (u v : ℕ) (group : Set) : Type 0 where
  pub tight : Tight f bars group
  pub has_u : group u ≡ true
  pub has_v : group v ≡ true

-- the least tight group with both u and v, and the largest
pub record LeastTight (f : Frame) (bars : Set) (u v : ℕ) (group : Set) : Type 0 where
  pub tight : TightWith f bars u v group
  pub least : (js : Set) → TightWith f bars u v js → (j : ℕ) → j < f.joints → group j ≡ true → js j ≡ true

pub record LargestTight (f : Frame) (bars : Set) (u v : ℕ) (group : Set) : Type 0 where
  pub tight : TightWith f bars u v group
  pub largest : (js : Set) → TightWith f bars u v js → (j : ℕ) → j < f.joints → js j ≡ true → group j ≡ true
