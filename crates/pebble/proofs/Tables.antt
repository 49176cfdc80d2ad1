-- Tables of slots: the empty one, and one with a slot written.
use Rattle.std.proofs.Common.{◌≡◌, ℕ, ◌*◌, ◌/◌, ◌<◌, ◌≤◌, true, eqb, ◌⊎◌, length, take, set, Some, None, Option, sym, refl, ap, ◌∙◌, inl, inr, arith}
use Rattle.std.proofs.lemmas.List.{get_or-replicate, get_or_past, get_or-set_same, get_or-set_other, get_or-take, length-set, length-replicate, length-take-le}
use Rattle.std.proofs.lemmas.List.Sums.{passes_at_first, fails_before_first}
use Rattle.std.specs.List.{position, position_or_len}
use Rattle.std.proofs.lemmas.Bool.{cond-true, cond-false, lt-ltb, le-ltb, cases_lt, cases_eq, or_cases, eqb-true, eq-eqb, both_ways}
use Rattle.sets.proofs.First.{first_some, first_none, none_first}
use Rattle.pebble.specs.declared.board.Board.{Board}
use Rattle.pebble.specs.declared.board.table.Table.{Table}
use Rattle.pebble.specs.declared.item.Item.{Item}
use Rattle.pebble.specs.Slots.{Slots, slot, Lies, AtEnds, Apart, Once, Settled, nothing, is_end, name, one, two, vacant, room}
use Rattle.pebble.specs.Calls.{named, where_is}

-- every slot of an empty table is empty
pub nothing_lies : (s : ℕ) (x : Item) → Lies nothing s x → ⊥
nothing_lies s x lies = cc (lies, empty s)
  where
    empty : (s : ℕ) → slot nothing s ≡ None
    empty s =
        elim (cases_lt s 1024) [
          | inl l ↦ get_or-replicate 1024 s None None l
          | inr g ↦ get_or_past nothing s None (omega (arith, length-replicate {A = Option Item} 1024 None))
        ]

-- every item of an empty table lies as it should
pub nothing_settled : (n : ℕ) → Settled n nothing
nothing_settled n = record {
  ends = λ s x lies. absurd (nothing_lies s x lies);
  apart = λ s x lies. absurd (nothing_lies s x lies);
  once = λ s t both. absurd (nothing_lies s both.0 both.2);
}

-- what the types of a table and of a board say of the items there
pub stands : (t : Table) → Settled 512 t.slots
stands t = record { ends = t.ends; apart = t.apart; once = t.once }

pub board_stands : (b : Board) → Settled b.joints b.table.slots
board_stands b = record { ends = b.table.ends; apart = b.apart; once = b.table.once }

-- among more joints too
pub settled_wider : (n m : ℕ) (slots : Slots) → n ≤ m → Settled n slots → Settled m slots
settled_wider n m slots l h = record { ends = h.ends; apart = λ s x lies. let a = h.apart s x lies in (omega (arith, a.0), omega (arith, a.1), a.2); once = h.once }

-- a slot is empty or holds an item
pub cases_slot : (o : Option Item) → (o ≡ None) ⊎ ((x : Item) × (o ≡ Some x))
cases_slot None = inl refl
cases_slot (Some x) = inr (x, refl)

-- an end of an item, where both ends are among the first n joints
pub end_inside : (n : ℕ) (x : Item) (j : ℕ) → is_end x j ≡ true → one x < n → two x < n → j < n
end_inside n x j end o t = elim (or_cases (eqb (one x) j) (eqb (two x) j) end) [ inl e ↦ omega (arith, eqb-true _ _ e) | inr e ↦ omega (arith, eqb-true _ _ e) ]

-- an item lies at one of the n joints
pub lies_inside : (n : ℕ) (slots : Slots) (s : ℕ) (x : Item) → AtEnds slots → Apart n slots → Lies slots s x → s / 2 < n
lies_inside n slots s x ends apart lies =
    let a = apart s x lies in
    end_inside n x (s / 2) (ends s x lies) a.0 a.1

-- so on a board of n joints all slots from 2n on are empty
past_empty : (n : ℕ) (slots : Slots) → AtEnds slots → Apart n slots → (s : ℕ) → 2 * n ≤ s → slot slots s ≡ None
past_empty n slots ends apart s past = elim (cases_slot (slot slots s)) [ inl e ↦ e | inr h ↦ absurd (omega (arith, lies_inside n slots s h.0 ends apart h.1)) ]

-- the first slot with the item of identity k, if there is one, is among the first 2n, since the others are empty
pub found : (n k : ℕ) (slots : Slots) → n ≤ 512 → length slots ≡ 1024 → AtEnds slots → Apart n slots → position (named k) (take (2 * n) slots) ≡ where_is slots k
found n k slots few whole ends apart =
    elim (cases_lt i (length part)) [
      | inl l ↦
          cond-true _ _ _ (lt-ltb i (length part) l)
          ∙ sym (first_some 1024 _ i (omega (arith, long)) (sym (same i (omega (arith, long))) ∙ passes_at_first (named k) part None l) (λ t b. sym (same t (omega (arith, long))) ∙ fails_before_first (named k) part t None b))
      | inr g ↦
          cond-false _ _ _ (le-ltb i (length part) g)
          ∙ sym (first_none 1024 _ (λ t _. elim (cases_lt t (2 * n)) [
            | inl l ↦ sym (same t l) ∙ fails_before_first (named k) part t None (omega (arith, long))
            | inr past ↦ ap (named k) (past_empty n slots ends apart t past)
          ]))
    ]
  where
    part : Slots
    part = take (2 * n) slots

    i : ℕ
    i = position_or_len (named k) part

    long : length part ≡ 2 * n
    long = length-take-le (2 * n) slots (omega arith)

    same : (t : ℕ) → t < 2 * n → named k (slot part t) ≡ named k (slot slots t)
    same t l = ap (named k) (get_or-take (2 * n) slots t None l)

-- where an item lies after a slot was written: as before, or there
pub lies_set : (slots : Slots) (s : ℕ) (o : Option Item) (t : ℕ) (y : Item) → s < length slots → Lies (set slots s o) t y → ((t ≡ s) × (o ≡ Some y)) ⊎ ((t ≡ s → ⊥) × Lies slots t y)
lies_set slots s o t y lt lies =
    elim (cases_eq t s) [
      | inl e ↦ inl (e, sym (get_or-set_same slots s o None lt) ∙ ap (slot (set slots s o)) (sym e) ∙ lies)
      | inr d ↦ inr (d, sym (get_or-set_other slots s t o None d) ∙ lies)
    ]

-- a slot is emptied
pub settled_cleared :
    (n : ℕ) (slots : Slots) (s : ℕ) → s < length slots → Settled n slots → Settled n (set slots s None) × (length (set slots s None) ≡ length slots)
settled_cleared n slots s lt f = (
  record {
    ends = λ t y lies. f.ends t y (was t y lies);
    apart = λ t y lies. f.apart t y (was t y lies);
    once = λ t r both. f.once t r (both.0, both.1, was t _ both.2, was r _ both.3, both.4);
  },
  length-set slots s None,
)
  where
    was : (t : ℕ) (y : Item) → Lies (set slots s None) t y → Lies slots t y
    was t y lies = elim (lies_set slots s None t y (omega arith) lies) [ inl e ↦ cc e.1 | inr l ↦ l.1 ]

-- an identity that is not found lies in no slot
pub absent : (slots : Slots) (k : ℕ) → length slots ≡ 1024 → where_is slots k ≡ None → (s : ℕ) (x : Item) → Lies slots s x → x.bar.0 ≡ k → ⊥
absent slots k whole none s x lies is =
    elim (cases_lt s 1024) [
      | inl l ↦ both_ways (named k (slot slots s)) (none_first 1024 _ none s l) (rw (lies, is) (eq-eqb k k refl))
      | inr g ↦ cc (lies, get_or_past slots s None (omega arith))
    ]

-- an item of a new identity is written into an empty slot of one of its ends
pub settled_written :
    (n : ℕ) (slots : Slots) (s : ℕ) (x : Item) → length slots ≡ 1024 → s < 1024 → is_end x (s / 2) ≡ true → one x < n → two x < n → (one x ≡ two x → ⊥) →
    where_is slots (name x) ≡ None → Settled n slots → Settled n (set slots s (Some x)) × (length (set slots s (Some x)) ≡ length slots)
settled_written n slots s x whole lt end o t differ new f = (
  record {
    ends = λ r y lies. elim (was r y lies) [ inl e ↦ rw (e.0, e.1) end | inr l ↦ f.ends r y l.1 ];
    apart = λ r y lies. elim (was r y lies) [ inl e ↦ rw e.1 (o, t, differ) | inr l ↦ f.apart r y l.1 ];
    once = single;
  },
  length-set slots s (Some x),
)
  where
    was : (r : ℕ) (y : Item) → Lies (set slots s (Some x)) r y → ((r ≡ s) × (y ≡ x)) ⊎ ((r ≡ s → ⊥) × Lies slots r y)
    was r y lies = elim (lies_set slots s (Some x) r y (omega arith) lies) [ inl e ↦ (let d : y ≡ x = cc e.1 in inl (e.0, d)) | inr l ↦ inr l ]

    lone : (r : ℕ) (y z : Item) → z ≡ x → name y ≡ name z → Lies slots r y → ⊥
    lone r y z e same lies = absent slots (name x) whole new r y lies (same ∙ ap (λ i. i.bar.0) e)

    single : Once (set slots s (Some x))
    single r q both =
        elim (was r both.0 both.2) [
          | inl e ↦ elim (was q both.1 both.3) [ inl d ↦ e.0 ∙ sym d.0 | inr l ↦ absurd (lone q both.1 both.0 e.1 (sym both.4) l.1) ]
          | inr k ↦ elim (was q both.1 both.3) [ inl d ↦ absurd (lone r both.0 both.1 d.1 both.4 k.1) | inr l ↦ f.once r q (both.0, both.1, k.1, l.1, both.4) ]
        ]

-- a joint with no empty slot is one of the table: past it nothing is taken
pub full_inside : (slots : Slots) (j : ℕ) → length slots ≡ 1024 → room slots j ≡ 0 → j < 512
full_inside slots j whole full =
    elim (cases_lt j 512) [
      | inl l ↦ l
      | inr g ↦ absurd (omega (arith, ap vacant (get_or_past slots (2 * j) None (omega arith))))
    ]
