-- The slots of a board, two at each joint: a slot is empty, or holds an item, which is a bar that is given to one of its ends. In the field: an
-- orientation of the bars, with a pebble on each empty slot. Assumes nothing: these are definitions.
use Rattle.std.specs.Prelude.{◌≡◌, ℕ, ◌+◌, ◌*◌, ◌/◌, ◌<◌, Bool, true, false, cond, ◌||◌, ◌↔◌, List, replicate, Some, None, Option, ◌==◌, ◌≢◌, slice_index_or}
use Rattle.sets.specs.Sets.{Set, less}
use Rattle.pebble.specs.declared.item.Item.{Item}

-- the numbers of an item: its identity, and its two ends
abbrev pub name : Item → ℕ
name x = x.bar.0

abbrev pub one : Item → ℕ
one x = x.ends.one.0

abbrev pub two : Item → ℕ
two x = x.ends.two.0

-- joint j is an end of an item
abbrev pub is_end : Item → ℕ → Bool
is_end x j = one x == j || two x == j

-- the end of an item that is not j
abbrev pub other : Item → ℕ → ℕ
other x j = cond (one x == j) (two x) (one x)

-- slots in a row: joint j has the slots 2j and 2j + 1
abbrev pub Slots : Type 0
Slots = List (Option Item)

-- the table of an empty board, for 512 joints
abbrev pub nothing : Slots
nothing = replicate 1024 None

-- what slot s holds; past the row, nothing
abbrev pub slot : Slots → ℕ → Option Item
slot slots s = slice_index_or slots s None

-- item x lies in slot s: it is given to joint s / 2
abbrev pub Lies : Slots → ℕ → Item → Type 0
Lies slots s x = slot slots s ≡ Some x

-- item x lies in some slot
abbrev pub Placed : Slots → Item → Type 0
Placed slots x = (s : ℕ) × Lies slots s x

-- exactly the same items are placed
abbrev pub SameItems : (before after : Slots) → Type 0
SameItems a b = (x : Item) → Placed a x ↔ Placed b x

-- each item lies at one of its ends
abbrev pub AtEnds : Slots → Type 0
AtEnds slots = (s : ℕ) (x : Item) → Lies slots s x → is_end x (s / 2) ≡ true

-- each item has two different ends, both of them among the first n joints
abbrev pub Apart : (n : ℕ) → Slots → Type 0
Apart n slots = (s : ℕ) (x : Item) → Lies slots s x → (one x < n) × (two x < n) × (one x ≢ two x)

-- slots s and t hold items of one identity
abbrev pub Share : Slots → (s t : ℕ) → Type 0
Share slots s t = (x : Item) × (y : Item) × Lies slots s x × Lies slots t y × (name x ≡ name y)

-- no identity lies in two slots
abbrev pub Once : Slots → Type 0
Once slots = (s t : ℕ) → Share slots s t → s ≡ t

-- items lie on a board of n joints as they should: what the type of a board says of its slots
pub record Settled (n : ℕ) (slots : Slots) : Type 0 where
  pub ends : AtEnds slots
  pub apart : Apart n slots
  pub once : Once slots

-- 1 for an empty slot
abbrev pub vacant : Option Item → ℕ
vacant None = 1
vacant (Some x) = 0

-- how many slots of joint j are empty. In the field: the pebbles on j
abbrev pub room : Slots → ℕ → ℕ
room slots j = vacant (slot slots (2 * j)) + vacant (slot slots (2 * j + 1))

-- a group of joints from which no item leads out: what is given to a joint of it has both ends in it
abbrev pub Closed : Slots → (group : Set) → Type 0
Closed slots js = (s : ℕ) (x : Item) → Lies slots s x → js (s / 2) ≡ true → (js (one x) ≡ true) × (js (two x) ≡ true)

-- the same but for the items of joints that have been seen, other than j: these may lead out
abbrev pub ClosedBut : Slots → (seen : Set) (j : ℕ) (group : Set) → Type 0
ClosedBut slots seen j js =
    (s : ℕ) (x : Item) → Lies slots s x → js (s / 2) ≡ true → less seen j (s / 2) ≡ false → (js (one x) ≡ true) × (js (two x) ≡ true)
