-- What a board says of the bars that lie on it, each statement named by the contract of a function. Assumes nothing: these are statements.
use Rattle.std.specs.Prelude.{◌≡◌, ℕ, ◌+◌, ◌*◌, ◌<◌, ◌≤◌, false, Some, Option}
use Rattle.sets.specs.Sets.{Set, none, also, less, count, over}
use Rattle.sets.specs.declared.ids.JointId.{JointId}
use Rattle.frame.specs.Frame.{Frame, size, bar_at, induced, Free}
use Rattle.frame.specs.Views.{bar_of}
use Rattle.pebble.specs.declared.item.Item.{Item}
use Rattle.pebble.specs.Slots.{Slots, SameItems, Settled, Closed, name, nothing, room}
use Rattle.pebble.specs.Calls.{where_is, Put, Taken}
use Rattle.pebble.specs.Moves.{Gathered, FellShort}
use Rattle.pebble.specs.Groups.{Reached, Unreaching, Oriented, TightWith, LeastTight, LargestTight}

-- no bar lies on an empty board
abbrev pub NothingOriented : Type 0
NothingOriented = (f : Frame) → Oriented f none nothing

-- where exactly the same items are placed, the same bars lie on the board
abbrev pub MovesOrient : Type 0
MovesOrient =
    (f : Frame) (xs : Set) (before after : Slots) → Oriented f xs before → Settled f.joints after → SameItems before after → Oriented f xs after

-- where a bar of the frame was put, it lies on the board too; and where one was taken out, it does not
abbrev pub PutOrients : Type 0
PutOrients =
    (f : Frame) (xs : Set) (before after : Slots) (x : Item) (at : JointId) → Oriented f xs before → Settled f.joints after →
    name x < size f → bar_of x.ends ≡ bar_at f (name x) → Put before x at after → Oriented f (also xs (name x)) after

abbrev pub TakeOrients : Type 0
TakeOrients =
    (f : Frame) (xs : Set) (before after : Slots) (k s : ℕ) (r : Option Item) → Oriented f xs before → Settled f.joints after →
    where_is before k ≡ Some s → Taken before (Some s) r after → Oriented f (less xs k) after

-- the bars among some joints, and the empty slots there, are at most twice the joints; and just that if no item leads out
abbrev pub RoomBounds : Type 0
RoomBounds =
    (f : Frame) (xs js : Set) (slots : Slots) → Oriented f xs slots →
    induced f js xs + over f.joints js (room slots) ≤ 2 * count f.joints js

abbrev pub RoomCounts : Type 0
RoomCounts =
    (f : Frame) (xs js : Set) (slots : Slots) → Oriented f xs slots → Closed slots js →
    induced f js xs + over f.joints js (room slots) ≡ 2 * count f.joints js

-- a free set of bars that lies on a board, and two of its joints
pub record Asked (f : Frame) (xs : Set) (slots : Slots) (u v : ℕ) : Type 0 where
  pub oriented : Oriented f xs slots
  pub free : Free f xs
  pub u_inside : u < f.joints
  pub v_inside : v < f.joints
  pub differ : u ≡ v → ⊥

-- where no further slot can be emptied at u and v, three are empty at least: so three can always be gathered
abbrev pub ThreeGather : Type 0
ThreeGather =
    (f : Frame) (xs group : Set) (slots : Slots) (u v : ℕ) → Asked f xs slots u v → Reached f.joints slots u v group →
    3 ≤ room slots u + room slots v

-- and where just three are, the joints that are reached are the least tight group with both u and v
abbrev pub ReachedTight : Type 0
ReachedTight =
    (f : Frame) (xs group : Set) (slots : Slots) (u v : ℕ) → Asked f xs slots u v → Reached f.joints slots u v group →
    room slots u + room slots v ≡ 3 → LeastTight f xs u v group

-- where the two ends of a bar that is not in a free set have four empty slots, the set with it is free
abbrev pub FourFree : Type 0
FourFree =
    (f : Frame) (xs : Set) (slots : Slots) (k : ℕ) → Asked f xs slots (bar_at f k).one (bar_at f k).two → k < size f → xs k ≡ false →
    4 ≤ room slots (bar_at f k).one + room slots (bar_at f k).two → Free f (also xs k)

-- what gathering at u and v says of a free set, on a board where it is `before`: three can always be gathered
abbrev pub ThreeAlways : Type 0
ThreeAlways =
    (f : Frame) (xs group : Set) (before after : Slots) (u v wanted empty : ℕ) → Asked f xs before u v → Settled f.joints after → wanted ≤ 3 →
    FellShort f.joints before u v wanted empty group after → ⊥

-- where four cannot, just three are empty, and the group that was reached is the least tight group with both u and v
abbrev pub FourthFails : Type 0
FourthFails =
    (f : Frame) (xs group : Set) (before after : Slots) (u v empty : ℕ) → Asked f xs before u v → Settled f.joints after →
    FellShort f.joints before u v 4 empty group after → (empty ≡ 3) × LeastTight f xs u v group

-- and where four can, a bar between u and v that is not in the set keeps it free
abbrev pub FourthFrees : Type 0
FourthFrees =
    (f : Frame) (xs : Set) (before after : Slots) (k : ℕ) → Asked f xs before (bar_at f k).one (bar_at f k).two → Settled f.joints after → k < size f → xs k ≡ false →
    Gathered before (bar_at f k).one (bar_at f k).two 4 after → Free f (also xs k)

-- and where four cannot, it does not
abbrev pub FourthSpoils : Type 0
FourthSpoils =
    (f : Frame) (xs group : Set) (before after : Slots) (k empty : ℕ) → Asked f xs before (bar_at f k).one (bar_at f k).two → Settled f.joints after → k < size f → xs k ≡ false →
    FellShort f.joints before (bar_at f k).one (bar_at f k).two 4 empty group after → Free f (also xs k) → ⊥

-- where three slots at u and v are empty and some tight group has both, the joints that reach no other empty slot are the largest such
abbrev pub UnreachingTight : Type 0
UnreachingTight =
    (f : Frame) (xs js group : Set) (slots : Slots) (u v : ℕ) → Asked f xs slots u v → 3 ≤ room slots u + room slots v →
    TightWith f xs u v js → Unreaching f.joints slots u v group → LargestTight f xs u v group
