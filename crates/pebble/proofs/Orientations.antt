-- The bars that lie on a board, counted joint by joint: the bars that are given to some joints, and the empty slots there, are twice the joints.
use Rattle.std.proofs.Common.{◌≡◌, ℕ, ◌+◌, ◌*◌, ◌/◌, ◌<◌, ◌≤◌, true, ◌&&◌, eqb, ◌⊎◌, None, sym, ap, ◌∙◌, inl, inr, ⊎_elim, arith}
use Rattle.std.proofs.lemmas.Bool.{cases_Bool, cases_lt, both_ways, and_parts, and_from, or_cases, eqb-true, eq-eqb}
use Rattle.std.proofs.lemmas.Bool.Decides.{nat_tests}
use Rattle.sets.specs.Sets.{Set, both, either, count, over}
use Rattle.sets.proofs.Counts.{count_le, count_same, count_none, count_one, count_either_both, count_tight, over_plus, over_const, over_items}
use Rattle.frame.specs.Frame.{Frame, size, bar_at, among, induced}
use Rattle.frame.proofs.Among.{among_parts, among_from}
use Rattle.pebble.specs.declared.item.Item.{Item}
use Rattle.pebble.specs.Slots.{Slots, Lies, Closed, slot, vacant, room, name, one, two}
use Rattle.pebble.specs.Groups.{Oriented}
use Rattle.pebble.specs.Laws.{RoomBounds, RoomCounts}
use Rattle.pebble.proofs.Tables.{cases_slot}

-- a table of slots: each bar of the set lies in the slot that the table has for it
abbrev Table : Frame → (bars : Set) → Slots → (at : ℕ → ℕ) → Type 0
Table f xs slots at = (k : ℕ) → k < size f → xs k ≡ true → (x : Item) × Lies slots (at k) x × (name x ≡ k)

-- there is such a table for the bars that lie on a board
place : (f : Frame) (xs : Set) (slots : Slots) → Oriented f xs slots → (k : ℕ) → (s : ℕ) × (k < size f → xs k ≡ true → (x : Item) × Lies slots s x × (name x ≡ k))
place f xs slots o k =
    elim (cases_lt k (size f)) [
      | inl l ↦ elim (cases_Bool (xs k)) [
        | inl e ↦ (let a = o.all k l e in (a.0, λ _ _. (a.1, a.2, a.3)))
        | inr e ↦ (0, λ _ t. absurd (both_ways _ e t))
      ]
      | inr l ↦ (0, λ g _. absurd (omega arith))
    ]

table : (f : Frame) (xs : Set) (slots : Slots) → Oriented f xs slots → (at : ℕ → ℕ) × Table f xs slots at
table f xs slots o = (λ k. (place f xs slots o k).0, λ k. (place f xs slots o k).1)

-- a slot has one bar or is empty
in_slot :
    (f : Frame) (xs : Set) (slots : Slots) (at : ℕ → ℕ) → Oriented f xs slots → Table f xs slots at →
    (s : ℕ) → count (size f) (λ k. xs k && eqb (at k) s) + vacant (slot slots s) ≡ 1
in_slot f xs slots at o t s =
    elim (cases_slot (slot slots s)) [
      | inl e ↦ omega (arith, ap vacant e, count_none (size f) _ (λ k b. ⊎_elim (λ y. absurd (nothing e k b y)) (λ n. n) (cases_Bool _)))
      | inr (x, e) ↦
          omega (
            arith,
            ap vacant e,
            count_one (size f) (name x) (o.items s x e).0,
            count_le (size f) (λ k. xs k && eqb (at k) s) (λ k. eqb k (name x)) (just x e),
            count_le (size f) (λ k. eqb k (name x)) (λ k. xs k && eqb (at k) s) (found x e),
          )
    ]
  where
    held : (k : ℕ) → k < size f → (xs k && eqb (at k) s) ≡ true → (x : Item) × Lies slots s x × (name x ≡ k)
    held k b y =
        let p = and_parts _ _ y in
        let h = t k b p.0 in
        (h.0, ap (slot slots) (sym (eqb-true (at k) s p.1)) ∙ h.1, h.2)

    nothing : slot slots s ≡ None → (k : ℕ) → k < size f → (xs k && eqb (at k) s) ≡ true → ⊥
    nothing e k b y = cc (held k b y).1

    just : (x : Item) → Lies slots s x → (k : ℕ) → k < size f → (xs k && eqb (at k) s) ≡ true → eqb k (name x) ≡ true
    just x e k b y =
        let h = held k b y in
        let same : h.0 ≡ x = cc h.1 in
        eq-eqb k (name x) (sym h.2 ∙ ap name same)

    found : (x : Item) → Lies slots s x → (k : ℕ) → k < size f → eqb k (name x) ≡ true → (xs k && eqb (at k) s) ≡ true
    found x e k b y =
        let is = eqb-true k (name x) y in
        let in_set = ap xs is ∙ (o.items s x e).1 in
        let h = t k b in_set in
        and_from _ _ in_set (eq-eqb (at k) s (o.settled.once (at k) s (h.0, x, h.1, e, h.2 ∙ is)))

-- a joint has two slots: the bars that are given to it, and the empty slots, are two
at_joint :
    (f : Frame) (xs : Set) (slots : Slots) (at : ℕ → ℕ) → Oriented f xs slots → Table f xs slots at →
    (j : ℕ) → count (size f) (λ k. xs k && eqb (at k / 2) j) + room slots j ≡ 2
at_joint f xs slots at o t j =
    omega (
      arith,
      in_slot f xs slots at o t (2 * j),
      in_slot f xs slots at o t (2 * j + 1),
      count_either_both (size f) (λ k. xs k && eqb (at k) (2 * j)) (λ k. xs k && eqb (at k) (2 * j + 1)),
      count_none (size f) (both (λ k. xs k && eqb (at k) (2 * j)) (λ k. xs k && eqb (at k) (2 * j + 1))) (λ k b. grind (arith, nat_tests)),
      count_same (size f) (λ k. xs k && eqb (at k / 2) j) (either (λ k. xs k && eqb (at k) (2 * j)) (λ k. xs k && eqb (at k) (2 * j + 1))) (λ k b. grind (arith, nat_tests)),
    )

-- the joint to which a bar is given is a joint of the frame, and one of its ends
given_end :
    (f : Frame) (xs : Set) (slots : Slots) (s : ℕ) (x : Item) → Oriented f xs slots → Lies slots s x →
    (s / 2 < f.joints) × ((s / 2 ≡ (bar_at f (name x)).one) ⊎ (s / 2 ≡ (bar_at f (name x)).two))
given_end f xs slots s x o e =
    let inside = o.settled.apart s x e in
    let bar = (o.items s x e).2 in
    elim (or_cases _ _ (o.settled.ends s x e)) [
      | inl y ↦ (let is = eqb-true (one x) (s / 2) y in (omega (arith, inside.0), inl (sym is ∙ ap (λ b. b.one) bar)))
      | inr y ↦ (let is = eqb-true (two x) (s / 2) y in (omega (arith, inside.1), inr (sym is ∙ ap (λ b. b.two) bar)))
    ]

-- the bars that are given to some joints, and the empty slots there, are twice the joints
given_counted :
    (f : Frame) (xs js : Set) (slots : Slots) (at : ℕ → ℕ) → Oriented f xs slots → Table f xs slots at →
    count (size f) (λ k. xs k && js (at k / 2)) + over f.joints js (room slots) ≡ 2 * count f.joints js
given_counted f xs js slots at o t =
    omega (
      arith,
      over_items f.joints (size f) js xs (λ k. at k / 2) (λ k b e. let h = t k b e in (given_end f xs slots (at k) h.0 o h.1).0),
      over_plus f.joints js (λ j. count (size f) (λ k. xs k && eqb (at k / 2) j)) (room slots),
      over_const f.joints js (λ j. count (size f) (λ k. xs k && eqb (at k / 2) j) + room slots j) 2 (λ j _ _. at_joint f xs slots at o t j),
    )

-- a bar among some joints is given to one of them
among_given :
    (f : Frame) (xs js : Set) (slots : Slots) (at : ℕ → ℕ) → Oriented f xs slots → Table f xs slots at →
    (k : ℕ) → k < size f → among f js xs k ≡ true → (xs k && js (at k / 2)) ≡ true
among_given f xs js slots at o t k b a =
    let p = among_parts f js xs k a in
    let h = t k b p.0 in
    and_from _ _ p.0 (elim (given_end f xs slots (at k) h.0 o h.1).1 [
      | inl e ↦ ap js (e ∙ ap (λ i. (bar_at f i).one) h.2) ∙ p.1
      | inr e ↦ ap js (e ∙ ap (λ i. (bar_at f i).two) h.2) ∙ p.2
    ])

-- where no item leads out of some joints, a bar that is given to one of them is among them
given_among :
    (f : Frame) (xs js : Set) (slots : Slots) (at : ℕ → ℕ) → Oriented f xs slots → Table f xs slots at → Closed slots js →
    (k : ℕ) → k < size f → (xs k && js (at k / 2)) ≡ true → among f js xs k ≡ true
given_among f xs js slots at o t c k b y =
    let p = and_parts _ _ y in
    let h = t k b p.0 in
    let ends = c (at k) h.0 h.1 p.1 in
    let bar = (o.items (at k) h.0 h.1).2 ∙ ap (bar_at f) h.2 in
    among_from f js xs k p.0 (ap (λ e. js e.one) (sym bar) ∙ ends.0) (ap (λ e. js e.two) (sym bar) ∙ ends.1)

-- so the bars among some joints and the empty slots there are at most twice the joints, and just that if no item leads out
pub room_bounds : RoomBounds
room_bounds f xs js slots o =
    let t = table f xs slots o in
    omega (arith, given_counted f xs js slots t.0 o t.1, count_le (size f) _ _ (among_given f xs js slots t.0 o t.1))

pub room_counts : RoomCounts
room_counts f xs js slots o c =
    let t = table f xs slots o in
    omega (arith, room_bounds f xs js slots o, given_counted f xs js slots t.0 o t.1, count_le (size f) _ _ (given_among f xs js slots t.0 o t.1 c))

-- and only if: where they are twice the joints, no item leads out
pub closed_from_counts :
    (f : Frame) (xs js : Set) (slots : Slots) → Oriented f xs slots →
    2 * count f.joints js ≤ induced f js xs + over f.joints js (room slots) → Closed slots js
closed_from_counts f xs js slots o most s x e y =
    let t = table f xs slots o in
    let i = o.items s x e in
    let h = t.1 (name x) i.0 i.1 in
    let here = o.settled.once s (t.0 (name x)) (x, h.0, e, h.1, sym h.2) in
    let given = and_from _ _ i.1 (ap (λ r. js (r / 2)) (sym here) ∙ y) in
    let p = among_parts f js xs (name x) (all_among t.0 t.1 (name x) i.0 given) in
    (ap (λ b. js b.one) i.2 ∙ p.1, ap (λ b. js b.two) i.2 ∙ p.2)
  where
    all_among : (at : ℕ → ℕ) → Table f xs slots at → (k : ℕ) → k < size f → (xs k && js (at k / 2)) ≡ true → among f js xs k ≡ true
    all_among at t = count_tight (size f) _ _ (among_given f xs js slots at o t) (omega (arith, given_counted f xs js slots at o t))
