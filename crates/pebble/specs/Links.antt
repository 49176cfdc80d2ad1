-- Links backwards on a board, from each joint to the slots whose items lead to it, and what a search along them takes out of a set. Assumes
-- nothing: these are definitions.
use Rattle.std.specs.Prelude.{◌≡◌, ℕ, zero, suc, ◌/◌, ◌<◌, ◌≤◌, Bool, true, false, cond, not, ◌&&◌, List, Some, None, Option, ◌==◌, nat_lt, slice_index_or}
use Rattle.sets.specs.Sets.{Set, Within}
use Rattle.pebble.specs.declared.item.Item.{Item}
use Rattle.pebble.specs.Slots.{Slots, slot, Lies, Closed, other, room}

-- the joints with an empty slot, but u and v
abbrev pub outlets : Slots → (u v : ℕ) → Set
outlets slots u v j = nat_lt 0 (room slots j) && (not (j == u) && not (j == v))

-- what a slot of joint j holds leads to joint w: w is the other end of the item
abbrev pub goes : Option Item → (j w : ℕ) → Bool
goes None j w = false
goes (Some x) j w = other x j == w

-- the slots whose items lead to joint w
abbrev pub leads : Slots → ℕ → Set
leads slots w t = goes (slot slots t) (t / 2) w

-- the last number below n that is in the set, if there is one
unfoldable pub last : ℕ → Set → Option ℕ
last zero s = None
last (suc n) s = cond (s n) (Some n) (last n s)

-- the slots below b are linked: of each joint the last slot that leads to it, and of each slot the last one before it that leads to the same joint
pub record Linked (slots : Slots) (b : ℕ) (lasts befores : List (Option ℕ)) : Type 0 where
  pub heads : (w : ℕ) → w < 512 → slice_index_or lasts w None ≡ last b (leads slots w)
  pub tails : (t : ℕ) (x : Item) → t < b → Lies slots t x → slice_index_or befores t None ≡ last t (leads slots (other x (t / 2)))

-- what is asked before a search: every slot is linked, and the joint is one of the table
pub record Searchable (slots : Slots) (lasts befores : List (Option ℕ)) (j : ℕ) : Type 0 where
  pub linked : Linked slots 1024 lasts befores
  pub joint : j < 512

-- what a search backwards from joint j takes out of the set `rest`, once the slots from p on have been looked at: the joints of these slots that
-- lead to j, and with each joint all those whose items lead to it; and no joint of a group that has not j and that no item leads out of
pub record Dropped (slots : Slots) (rest : Set) (j p : ℕ) (left : Set) : Type 0 where
  pub shrank : Within left rest
  pub here : (t : ℕ) → p ≤ t → leads slots j t ≡ true → left (t / 2) ≡ false
  pub behind : (i t : ℕ) → rest i ≡ true → left i ≡ false → leads slots i t ≡ true → left (t / 2) ≡ false
  pub sound : (js : Set) → Closed slots js → js j ≡ false → (i : ℕ) → rest i ≡ true → left i ≡ false → js i ≡ false
