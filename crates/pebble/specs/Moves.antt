-- What moving items on from joint to joint does, and what it leaves where it fails. Assumes nothing: these are definitions.
use Rattle.std.specs.Prelude.{◌≡◌, ℕ, ◌+◌, ◌/◌, ◌<◌, ◌≤◌, max, true, false, Some, None, Ok, Err, Option, Result, ◌≢◌}
use Rattle.sets.specs.Sets.{Set, Within}
use Rattle.sets.specs.Words.{members}
use Rattle.sets.specs.declared.joint_set.JointSet.{JointSet}
use Rattle.pebble.specs.declared.item.Item.{Item}
use Rattle.pebble.specs.declared.outcome.Short.{Short}
use Rattle.pebble.specs.declared.outcome.Stuck.{Stuck as StuckAt}
use Rattle.pebble.specs.Groups.{Reached}
use Rattle.pebble.specs.Slots.{Slots, slot, Lies, SameItems, ClosedBut, one, two, room}

-- room was made: slot s of joint j is empty now, exactly the same items are placed, and the slots of joints that had been seen are as they were,
-- but for s
pub record Moved (before : Slots) (seen : Set) (j : ℕ) (s : ℕ) (after : Slots) : Type 0 where
  pub here : s / 2 ≡ j
  pub empty : slot after s ≡ None
  pub same : SameItems before after
  pub kept : (t : ℕ) → seen (t / 2) ≡ true → (t ≢ s) → slot after t ≡ slot before t

-- the joints that are seen only grew. Each that is newly seen is full, what is given to it has both ends seen, and it is reached from j along
-- items, past no joint that had been seen: every group with j has it that is closed but for these
pub record Spread (slots : Slots) (seen : Set) (j : ℕ) (now_seen : Set) : Type 0 where
  pub grew : Within seen now_seen
  pub full : (i : ℕ) → now_seen i ≡ true → seen i ≡ false → room slots i ≡ 0
  pub closed : (s : ℕ) (x : Item) → Lies slots s x → now_seen (s / 2) ≡ true → seen (s / 2) ≡ false → (now_seen (one x) ≡ true) × (now_seen (two x) ≡ true)
  pub reached : (js : Set) → ClosedBut slots seen j js → js j ≡ true → (i : ℕ) → now_seen i ≡ true → seen i ≡ false → js i ≡ true

-- no item of joint j can be moved on: nothing moved, and what is given to j has both ends seen
pub record Stuck (before : Slots) (seen : Set) (j : ℕ) (after : Slots) (now_seen : Set) : Type 0 where
  pub still : after ≡ before
  pub spread : Spread before seen j now_seen
  pub from : (s : ℕ) (x : Item) → Lies before s x → s / 2 ≡ j → (now_seen (one x) ≡ true) × (now_seen (two x) ≡ true)

-- one of the two items of joint j, which has been seen, is moved on to its other end: the slot that it leaves, or none
abbrev pub MovedOn : (before : Slots) (seen : Set) (j : ℕ) → Option ℕ → (after : Slots) (now_seen : Set) → Type 0
MovedOn before seen j (Some s) after now_seen = Moved before seen j s after × (room after j ≡ room before j + 1)
MovedOn before seen j None after now_seen = Stuck before seen j after now_seen

-- an empty slot of joint j, which has been seen: one that was empty, or that an item left; or none
abbrev pub FoundRoom : (before : Slots) (seen : Set) (j : ℕ) → Option ℕ → (after : Slots) (now_seen : Set) → Type 0
FoundRoom before seen j (Some s) after now_seen = Moved before seen j s after
FoundRoom before seen j None after now_seen = Stuck before seen j after now_seen × (room before j ≡ 0)

-- joint j has an empty slot, one if it had none, exactly the same items are placed, and the slots of the joints that were to be kept are as they
-- were; where j had an empty slot, nothing moved
pub record Roomy (before : Slots) (kept : Set) (j : ℕ) (after : Slots) : Type 0 where
  pub empty : room after j ≡ max 1 (room before j)
  pub same : SameItems before after
  pub kept_same : (t : ℕ) → kept (t / 2) ≡ true → slot after t ≡ slot before t
  pub idle : 1 ≤ room before j → after ≡ before

-- joint j is full and no room can be made there: nothing moved, and j is among the joints that are seen
pub record Roomless (before : Slots) (kept : Set) (j : ℕ) (after : Slots) (seen : Set) : Type 0 where
  pub still : after ≡ before
  pub full : room before j ≡ 0
  pub here : seen j ≡ true
  pub spread : Spread before kept j seen

-- what making room at joint j comes to
abbrev pub RoomSays : (before : Slots) (kept : Set) (j : ℕ) → Result (Unit {0}) StuckAt → (after : Slots) → Type 0
RoomSays before kept j (Ok _) after = Roomy before kept j after
RoomSays before kept j (Err stuck) after = Roomless before kept j after (members stuck.seen)

-- one more slot is empty at u and v together, or none can be
pub record Emptied (before : Slots) (u v : ℕ) (after : Slots) : Type 0 where
  pub same : SameItems before after
  pub more : room after u + room after v ≡ room before u + room before v + 1

abbrev pub EmptiedOne : (before : Slots) (u v : ℕ) → Result (Unit {0}) JointSet → (after : Slots) → Type 0
EmptiedOne before u v (Ok _) after = Emptied before u v after
EmptiedOne before u v (Err seen) after = (after ≡ before) × Reached 512 before u v (members seen)

-- exactly the same items are placed, and u and v together have so many empty slots as were wanted, or as they had if that is more; then nothing moved
pub record Gathered (before : Slots) (u v wanted : ℕ) (after : Slots) : Type 0 where
  pub same : SameItems before after
  pub enough : room after u + room after v ≡ max wanted (room before u + room before v)
  pub idle : wanted ≤ room before u + room before v → after ≡ before

-- the same items are placed, fewer slots than were wanted are empty at u and v, and only there, in the group that is reached from them
pub record FellShort (n : ℕ) (before : Slots) (u v wanted empty : ℕ) (group : Set) (after : Slots) : Type 0 where
  pub same : SameItems before after
  pub short : empty < wanted
  pub counted : empty ≡ room after u + room after v
  pub group_is : Reached n after u v group

-- what gathering at u and v comes to on a board of n joints
abbrev pub GatherSays : (n : ℕ) (before : Slots) (u v wanted : ℕ) → Result (Unit {0}) Short → (after : Slots) → Type 0
GatherSays n before u v wanted (Ok _) after = Gathered before u v wanted after
GatherSays n before u v wanted (Err short) after = FellShort n before u v wanted short.empty (members short.reached) after

-- what is asked before slots are gathered at u and v: they are two of 512 joints
pub record TwoJoints (u v : ℕ) : Type 0 where
  pub u_inside : u < 512
  pub v_inside : v < 512
  pub differ : u ≡ v → ⊥
