-- Gathering at two joints: one slot more is emptied, or the joints that are reached from both are a group that no item leads out of.
use Rattle.std.proofs.Common.{◌≡◌, ℕ, ◌+◌, ◌*◌, ◌/◌, ◌<◌, ◌≤◌, true, false, eqb, is_some, Some, None, Ok, Err, Option, Result, sym, refl, ap, ◌∙◌, subst, ap₂, inl, inr, arith}
use Rattle.std.proofs.lemmas.Bool.{cases_Bool, or_cases, or_left, or_right, eqb-true, eq-eqb}
use Rattle.sets.specs.Sets.{Set, none, also}
use Rattle.pebble.specs.declared.item.Item.{Item}
use Rattle.pebble.specs.declared.outcome.Short.{Short}
use Rattle.pebble.specs.declared.outcome.Stuck.{Stuck as StuckAt}
use Rattle.pebble.specs.Slots.{Slots, slot, Apart, Placed, SameItems, Closed, room, vacant}
use Rattle.pebble.specs.Groups.{Reached}
use Rattle.pebble.specs.Moves.{Moved, Stuck, MovedOn, Roomless, RoomSays, Emptied, FellShort, GatherSays, TwoJoints}
use Rattle.pebble.proofs.Searches.{spread_none, spread_more}

-- what a call answered, by whether it answered a slot
pub moved_on_some : (before : Slots) (seen : Set) (j : ℕ) (r : Option ℕ) (after : Slots) (now_seen : Set) → is_some r ≡ true → MovedOn before seen j r after now_seen → (s : ℕ) × Moved before seen j s after × (room after j ≡ room before j + 1)
moved_on_some before seen j (Some s) after now_seen e h = (s, h.0, h.1)
moved_on_some before seen j None after now_seen e h = cc

pub moved_on_none : (before : Slots) (seen : Set) (j : ℕ) (r : Option ℕ) (after : Slots) (now_seen : Set) → is_some r ≡ false → MovedOn before seen j r after now_seen → Stuck before seen j after now_seen
moved_on_none before seen j (Some s) after now_seen e h = cc
moved_on_none before seen j None after now_seen e h = h

-- the two joints were put into the empty set
pub two_seen : (e a b : Set) (u v : ℕ) → TwoJoints u v → e ≡ none → (u < 512 → a ≡ also e u) → (v < 512 → b ≡ also a v) → b ≡ also (also none u) v
two_seen e a b u v t empty first second = second t.v_inside ∙ ap (λ s. also s v) (first t.u_inside ∙ ap (λ s. also s u) empty)

-- joint j is full, was not to be kept, and none of its items can be moved on
pub roomless : (slots after : Slots) (kept : Set) (j : ℕ) (seen : Set) → kept j ≡ false → room slots j ≡ 0 → Stuck slots (also kept j) j after seen → Roomless slots kept j after seen
roomless slots after kept j seen new full stuck = record {
  still = stuck.still;
  full = full;
  here = stuck.spread.grew j (or_right (kept j) (eqb j j) (eq-eqb j j refl));
  spread = spread_more slots after kept j j kept seen (spread_none slots kept j) new (λ _ _ h. h) full stuck;
}

-- a slot of u was emptied, and v was to be kept
pub emptied : (slots after : Slots) (seen : Set) (u v s : ℕ) → (u ≡ v → ⊥) → seen v ≡ true → Moved slots seen u s after → room after u ≡ room slots u + 1 → Emptied slots u v after
emptied slots after seen u v s differ has moved more = record {
  same = moved.same;
  more = omega (arith, ap₂ (λ (a b : Option Item). vacant a + vacant b) (kept (2 * v) (omega arith)) (kept (2 * v + 1) (omega arith)));
}
  where
    kept : (t : ℕ) → t / 2 ≡ v → slot after t ≡ slot slots t
    kept t at = moved.kept t (ap seen at ∙ has) (λ e. differ (sym moved.here ∙ ap (λ r. r / 2) (sym e) ∙ at))

-- an item of u was moved on
pub emptied_first :
    (slots after : Slots) (seen now_seen : Set) (u v : ℕ) (r : Option ℕ) → TwoJoints u v → seen ≡ also (also none u) v → is_some r ≡ true → MovedOn slots seen u r after now_seen →
    Emptied slots u v after
emptied_first slots after seen now_seen u v r t two e h =
    let m = moved_on_some slots seen u r after now_seen e h in
    emptied slots after seen u v m.0 t.differ (rw two (or_right _ (eqb v v) (eq-eqb v v refl))) m.1 m.2

-- none of u could be, and then one of v was
pub emptied_second :
    (slots between after : Slots) (seen then_seen now_seen : Set) (u v : ℕ) (r q : Option ℕ) → TwoJoints u v → seen ≡ also (also none u) v →
    is_some r ≡ false → MovedOn slots seen u r between then_seen → is_some q ≡ true → MovedOn between then_seen v q after now_seen → Emptied slots u v after
emptied_second slots between after seen then_seen now_seen u v r q t two e h d g =
    let first = moved_on_none slots seen u r between then_seen e h in
    let m = moved_on_some between then_seen v q after now_seen d g in
    let marked : then_seen u ≡ true = first.spread.grew u (rw two (or_left (eqb u u) (eqb u v) (eq-eqb u u refl))) in
    let other_way = emptied between after then_seen v u m.0 (λ e. t.differ (sym e)) marked m.1 m.2 in
    subst (λ l. Emptied l u v after) first.still (record { same = other_way.same; more = omega (arith, other_way.more) })

-- no item of u, and then none of v, can be moved on
pub reached :
    (slots between after : Slots) (u v : ℕ) (seen now_seen : Set) → Stuck slots (also (also none u) v) u between seen → Stuck between seen v after now_seen →
    (after ≡ slots) × Reached 512 slots u v now_seen
reached slots between after u v seen now_seen first then_second = (
  then_second.still ∙ first.still,
  record {
    shut = record { closed = closed; full = full };
    has_u = more u (first.spread.grew u (or_left (eqb u u) (eqb u v) (eq-eqb u u refl)));
    has_v = more v (first.spread.grew v (or_right (eqb v u) (eqb v v) (eq-eqb v v refl)));
    least = λ js shut hu hv i y. ways i (js i ≡ true) (λ o. second.spread.reached js (λ s x lies at _. shut s x lies at) hv i y o) (λ m o. first.spread.reached js (λ s x lies at _. shut s x lies at) hu i m o) (λ e. ap js e ∙ hu) (λ e. ap js e ∙ hv);
  },
)
  where
    second : Stuck slots seen v after now_seen
    second = subst (λ l. Stuck l seen v after now_seen) first.still then_second

    more : (i : ℕ) → seen i ≡ true → now_seen i ≡ true
    more = second.spread.grew

    -- a joint that is seen in the end was seen last, or first, or is u or v
    ways : (i : ℕ) (P : Type 0) → (seen i ≡ false → P) → (seen i ≡ true → also (also none u) v i ≡ false → P) → (i ≡ u → P) → (i ≡ v → P) → P
    ways i P last before at_u at_v =
        elim (cases_Bool (seen i)) [
          | inr o ↦ last o
          | inl m ↦ elim (cases_Bool (also (also none u) v i)) [
            | inr o ↦ before m o
            | inl y ↦ elim (or_cases (eqb i u) (eqb i v) y) [ inl e ↦ at_u (eqb-true _ _ e) | inr e ↦ at_v (eqb-true _ _ e) ]
          ]
        ]

    closed : Closed slots now_seen
    closed s x lies y =
        ways (s / 2) _ (second.spread.closed s x lies y)
        (λ m o. let q = first.spread.closed s x lies m o in (more _ q.0, more _ q.1))
        (λ e. let q = first.from s x lies e in (more _ q.0, more _ q.1))
        (second.from s x lies)

    full : (j : ℕ) → j < 512 → now_seen j ≡ true → (j ≡ u → ⊥) → (j ≡ v → ⊥) → room slots j ≡ 0
    full j _ y du dv = ways j _ (second.spread.full j y) (first.spread.full j) (λ e. absurd (du e)) (λ e. absurd (dv e))

-- where exactly the same items are placed, their ends are joints of the board as before
pub apart_moved : (n : ℕ) (before after : Slots) → SameItems before after → Apart n before → Apart n after
apart_moved n before after same apart s x lies = let h = (same x).1 (s, lies) in apart h.0 x h.1

-- nothing moved, so the same items are placed
pub same_still : (before after : Slots) → after ≡ before → SameItems before after
same_still before after e x = (λ h. subst (λ l. Placed l x) (sym e) h, λ h. subst (λ l. Placed l x) e h)

pub room_same : (before : Slots) (kept : Set) (j : ℕ) (r : Result (Unit {0}) StuckAt) (after : Slots) → RoomSays before kept j r after → SameItems before after
room_same before kept j (Ok _) after h = h.same
room_same before kept j (Err stuck) after h = same_still before after h.still

pub gather_same : (n : ℕ) (before : Slots) (u v wanted : ℕ) (r : Result (Unit {0}) Short) (after : Slots) → GatherSays n before u v wanted r after → SameItems before after
gather_same n before u v wanted (Ok _) after h = h.same
gather_same n before u v wanted (Err short) after h = h.same

-- the same items after one move and another
pub same_then : (before between after : Slots) → SameItems before between → SameItems between after → SameItems before after
same_then before between after a b x = (λ h. (b x).0 ((a x).0 h), λ h. (a x).1 ((b x).1 h))

-- the last try moved nothing
pub fell_short :
    (before between after : Slots) (u v wanted empty : ℕ) (group : Set) → SameItems before between → after ≡ between → empty < wanted → empty ≡ room between u + room between v →
    Reached 512 between u v group → FellShort 512 before u v wanted empty group after
fell_short before between after u v wanted empty group same still short counted reached =
    rw still (record { same = same; short = short; counted = counted; group_is = reached })

-- what is said of gathering on a table of 512 joints holds on a board of fewer
pub gather_within : (n : ℕ) (before : Slots) (u v wanted : ℕ) (r : Result (Unit {0}) Short) (after : Slots) → n ≤ 512 → GatherSays 512 before u v wanted r after → GatherSays n before u v wanted r after
gather_within n before u v wanted (Ok _) after few says = says
gather_within n before u v wanted (Err short) after few says =
    let group = says.group_is in
    record {
      same = says.same;
      short = says.short;
      counted = says.counted;
      group_is =
          record {
            shut = record { closed = group.shut.closed; full = λ j l. group.shut.full j (omega arith) };
            has_u = group.has_u;
            has_v = group.has_v;
            least = group.least;
          };
    }
