-- What the calls of a board answer, and what they leave. Assumes nothing: these are definitions.
use Rattle.std.specs.Prelude.{◌≡◌, ℕ, ◌+◌, ◌*◌, ◌/◌, ◌<◌, Bool, true, false, not, List, [], ◌∷◌, ◌++◌, length, is_some, Some, None, Option, ◌==◌, nat_le, slice_set}
use Rattle.std.specs.Option.{option_or}
use Rattle.std.specs.Bool.{then_some}
use Rattle.sets.specs.Sets.{first}
use Rattle.sets.specs.declared.ids.JointId.{JointId}
use Rattle.pebble.specs.declared.item.Item.{Item}
use Rattle.pebble.specs.declared.fault.Fault.{Fault}
use Rattle.pebble.specs.declared.fault.Fault.TheVariants.{JointPast, EqualJoints, Placed, NoRoom}
use Rattle.pebble.specs.Slots.{Slots, slot, name, one, two, is_end}

-- whether a slot holds the item of identity k
abbrev pub named : (k : ℕ) → Option Item → Bool
named k None = false
named k (Some x) = name x == k

-- the slot in which the item of identity k lies, if it does
abbrev pub where_is : Slots → (k : ℕ) → Option ℕ
where_is slots k = first 1024 (λ s. named k (slot slots s))

-- the first empty slot of joint j, if it has one
abbrev pub first_empty : Slots → (j : ℕ) → Option ℕ
first_empty slots j =
    option_or (then_some (not (is_some (slot slots (2 * j)))) (2 * j)) (then_some (not (is_some (slot slots (2 * j + 1)))) (2 * j + 1))

-- the slot into which an item is put: the first empty one of its first end, or else of its second
abbrev pub slot_for : Slots → Item → Option ℕ
slot_for slots x = option_or (first_empty slots (one x)) (first_empty slots (two x))

-- a joint that is asked for is past a board of n joints
abbrev pub joint_row : (n j : ℕ) → Option Fault
joint_row n j = then_some (nat_le n j) (JointPast (record { 0 = j }))

-- two joints that are asked for: the first is past the board, the second is, or they are equal
abbrev pub pair_rows : (n u v : ℕ) → List (Option Fault)
pair_rows n u v = joint_row n u ∷ (joint_row n v ∷ (then_some (u == v) (EqualJoints (record { 0 = u })) ∷ []))

-- an item that is to be put: its ends, that its identity lies on the board already, or that there is no room
abbrev pub put_rows : (n : ℕ) → Slots → Item → List (Option Fault)
put_rows n slots x =
    pair_rows n (one x) (two x)
    ++ (then_some (is_some (where_is slots (name x))) (Placed x.bar) ∷ (then_some (not (is_some (slot_for slots x))) NoRoom ∷ []))

-- an item was put into its slot s, which was empty and is one of an end of it, and nothing else has changed; the answer is the joint at which it lies
pub record PutAt (before : Slots) (x : Item) (s : ℕ) (at : JointId) (after : Slots) : Type 0 where
  pub is : slot_for before x ≡ Some s
  pub inside : s < length before
  pub empty : slot before s ≡ None
  pub end : is_end x (s / 2) ≡ true
  pub joint : at.0 ≡ s / 2
  pub after_is : after ≡ slice_set before s (Some x)

abbrev pub Put : (before : Slots) (x : Item) (at : JointId) (after : Slots) → Type 0
Put before x at after = (s : ℕ) × PutAt before x s at after

-- the item of identity k was taken out of its slot, and nothing else has changed; or it did not lie on the board
abbrev pub Taken : (before : Slots) → (at : Option ℕ) → Option Item → (after : Slots) → Type 0
Taken before None r after = (r ≡ None) × (after ≡ before)
Taken before (Some s) r after = (r ≡ slot before s) × (after ≡ slice_set before s None)
