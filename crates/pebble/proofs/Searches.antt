-- The search for room from joint to joint: what is known after some of a joint's slots have been looked at, and the step to the next.
use Rattle.std.proofs.Common.{◌≡◌, ℕ, zero, suc, [], ◌∷◌, add-zero, ◌+◌, ◌*◌, ◌/◌, ◌<◌, ◌≤◌, true, false, not, eqb, sym, refl, ap, ◌∙◌, subst, inl, inr, arith}
use mathlib.Core.Path.{fun_ext}
use Rattle.std.proofs.lemmas.Bool.{cases_Bool, cases_eq, cases_lt, both_ways, or_cases, or_left, or_right, eqb-true, eq-eqb, ne_eqb, and_right, not_from_true}
use Rattle.std.proofs.lemmas.Bool.Decides.{nat_tests}
use Rattle.sets.specs.Sets.{Set, also, less, Within, count}
use Rattle.sets.proofs.Counts.{count_le, count_same, count_less}
use Rattle.pebble.specs.declared.item.Item.{Item}
use Rattle.pebble.specs.Slots.{Slots, slot, Lies, AtEnds, Apart, Settled, ClosedBut, is_end, other, one, two, room}
use Rattle.pebble.specs.Moves.{Spread, Stuck}

-- how many joints of the table are not in a set: the number that falls from call to call
abbrev pub unseen : Set → ℕ
unseen s = count 512 (λ j. not (s j))

-- nothing has moved yet, and the slots of joint j below p have been looked at
pub record Sofar (slots : Slots) (seen : Set) (j p : ℕ) (now_seen : Set) : Type 0 where
  pub spread : Spread slots seen j now_seen
  pub from : (s : ℕ) (x : Item) → Lies slots s x → s / 2 ≡ j → s < p → (now_seen (one x) ≡ true) × (now_seen (two x) ≡ true)

-- the two ends of an item that lies at joint j are j and the other one
ends_seen : (x : Item) (j : ℕ) (s : Set) → is_end x j ≡ true → s j ≡ true → s (other x j) ≡ true → (s (one x) ≡ true) × (s (two x) ≡ true)
ends_seen x j s e here there =
    elim (cases_eq (one x) j) [
      | inl same ↦ (ap s same ∙ here, ap s (sym (is_two same)) ∙ there)
      | inr differ ↦ (ap s (sym (is_one differ)) ∙ there, ap s (eqb-true _ _ (second differ)) ∙ here)
    ]
  where
    is_two : one x ≡ j → other x j ≡ two x
    is_two same = rw (eq-eqb (one x) j same) refl

    is_one : (one x ≡ j → ⊥) → other x j ≡ one x
    is_one differ = rw (ne_eqb (one x) j differ) refl

    second : (one x ≡ j → ⊥) → eqb (two x) j ≡ true
    second differ = elim (or_cases (eqb (one x) j) (eqb (two x) j) e) [ inl f ↦ absurd (differ (eqb-true _ _ f)) | inr t ↦ t ]

-- the other end of an item that lies at joint j is another joint, and one of the table
pub other_differs : (slots : Slots) (n s : ℕ) (x : Item) (j : ℕ) → AtEnds slots → Apart n slots → Lies slots s x → s / 2 ≡ j → (other x j < n) × (other x j ≡ j → ⊥) × (is_end x (other x j) ≡ true) × (is_end x j ≡ true)
other_differs slots n s x j ends apart lies at =
    let e : is_end x j ≡ true = ap (is_end x) (sym at) ∙ ends s x lies in
    let a = apart s x lies in
    grind (arith, nat_tests)

-- nothing is newly seen
pub spread_none : (slots : Slots) (seen : Set) (j : ℕ) → Spread slots seen j seen
spread_none slots seen j = record {
  grew = λ _ e. e;
  full = λ i y o. absurd (both_ways _ o y);
  closed = λ s x lies y o. absurd (both_ways _ o y);
  reached = λ js closed has i y o. absurd (both_ways _ o y);
}

-- joint k, which is reached from j, was newly marked and is full, and no item of it can be moved on: what was seen there is added
pub spread_more :
    (slots after : Slots) (seen : Set) (j k : ℕ) (now_seen then_seen : Set) → Spread slots seen j now_seen → now_seen k ≡ false →
    ((js : Set) → ClosedBut slots seen j js → js j ≡ true → js k ≡ true) → room slots k ≡ 0 → Stuck slots (also now_seen k) k after then_seen → Spread slots seen j then_seen
spread_more slots after seen j k now_seen then_seen h new leads full stuck = record {
  grew = λ i e. more i (h.grew i e);
  full = λ i y o. ways i (room slots i ≡ 0) (stuck.spread.full i y) (λ e. ap (room slots) e ∙ full) (λ m. h.full i m o);
  closed = λ s x lies y o. ways (s / 2) _ (stuck.spread.closed s x lies y) (λ e. stuck.from s x lies e) (λ m. let q = h.closed s x lies m o in (more _ q.0, more _ q.1));
  reached = λ js closed has i y o. ways i _ (stuck.spread.reached js (still js closed) (leads js closed has) i y) (λ e. ap js e ∙ leads js closed has) (λ m. h.reached js closed has i m o);
}
  where
    -- a group that is closed but for fewer joints is closed but for more, of which k is none
    still : (js : Set) → ClosedBut slots seen j js → ClosedBut slots (also now_seen k) k js
    still js closed s x lies at out = closed s x lies at (let grew = h.grew (s / 2) in grind (arith, nat_tests))

    more : (i : ℕ) → now_seen i ≡ true → then_seen i ≡ true
    more i e = stuck.spread.grew i (or_left (now_seen i) (eqb i k) e)

    -- a joint that is seen now was seen there, or is k, or was seen before
    ways : (i : ℕ) (P : Type 0) → (also now_seen k i ≡ false → P) → (i ≡ k → P) → (now_seen i ≡ true → P) → P
    ways i P there here before =
        elim (cases_Bool (also now_seen k i)) [
          | inl y ↦ elim (or_cases (now_seen i) (eqb i k) y) [ inl m ↦ before m | inr e ↦ here (eqb-true _ _ e) ]
          | inr o ↦ there o
        ]

-- no slot has been looked at
pub sofar_none : (slots : Slots) (seen : Set) (j : ℕ) → Sofar slots seen j (2 * j) seen
sofar_none slots seen j = record { spread = spread_none slots seen j; from = λ s x lies at below. absurd (omega arith) }

-- more is seen, and slot p is empty or its item has both ends seen: one slot more has been looked at
pub sofar_passed :
    (slots : Slots) (seen : Set) (j p q : ℕ) (now_seen then_seen : Set) → q ≡ p + 1 → Sofar slots seen j p now_seen → Spread slots seen j then_seen → Within now_seen then_seen →
    ((x : Item) → Lies slots p x → (then_seen (one x) ≡ true) × (then_seen (two x) ≡ true)) → Sofar slots seen j q then_seen
sofar_passed slots seen j p q now_seen then_seen next h spread grew here = record {
  spread = spread;
  from = λ s x lies at below.
      elim (cases_lt s p) [
        | inl l ↦ let q = h.from s x lies at l in (grew _ q.0, grew _ q.1)
        | inr g ↦ let e : s ≡ p = omega arith in here x (subst (λ t. Lies slots t x) e lies)
      ];
}

-- both slots have been looked at
pub sofar_all : (slots after : Slots) (seen : Set) (j p : ℕ) (now_seen : Set) → after ≡ slots → Sofar slots seen j p now_seen → 2 * j + 2 ≤ p → Stuck slots seen j after now_seen
sofar_all slots after seen j p now_seen still h all = record { still = still; spread = h.spread; from = λ s x lies at. h.from s x lies at (omega arith) }

-- one joint more is marked: fewer are unseen
pub unseen_falls : (seen now_seen : Set) (k : ℕ) → Within seen now_seen → k < 512 → now_seen k ≡ false → unseen (also now_seen k) < unseen seen
unseen_falls seen now_seen k grew small new =
    omega (
      arith,
      count_less 512 (λ j. not (now_seen j)) k small (ap not new),
      count_same 512 (λ j. not (also now_seen k j)) (less (λ j. not (now_seen j)) k) (λ j b. grind (arith, nat_tests)),
      count_le 512 (λ j. not (now_seen j)) (λ j. not (seen j)) (λ j b o. let w = grew j in grind (arith, nat_tests)),
    )

-- an item has both ends seen where the other end is
pub other_seen : (slots : Slots) (s : ℕ) (x : Item) (j : ℕ) (seen : Set) → AtEnds slots → Lies slots s x → s / 2 ≡ j → seen j ≡ true → seen (other x j) ≡ true → (seen (one x) ≡ true) × (seen (two x) ≡ true)
other_seen slots s x j seen ends lies at = ends_seen x j seen (ap (is_end x) (sym at) ∙ ends s x lies)

-- a group with both ends of an item has the one that is not j
pub other_in : (x : Item) (j : ℕ) (js : Set) → (js (one x) ≡ true) × (js (two x) ≡ true) → js (other x j) ≡ true
other_in x j js q = elim (cases_Bool (eqb (one x) j)) [ inl y ↦ rw y q.1 | inr o ↦ rw o q.0 ]

-- slot p of joint j, which is looked at now, holds item x, whose other end is k, and k was put into the set of seen joints
pub record Turn (slots : Slots) (seen : Set) (j p : ℕ) (now_seen : Set) (x : Item) (k : ℕ) (grown : Set) : Type 0 where
  pub settled : Settled 512 slots
  pub marked : seen j ≡ true
  pub sofar : Sofar slots seen j p now_seen
  pub here : p / 2 ≡ j
  pub lies : Lies slots p x
  pub leads : k ≡ other x j
  pub inside : k < 512
  pub put : grown ≡ also now_seen k

-- what the items of joint j say of its slots
pub held_at : (slots items : Slots) (j i : ℕ) → items ≡ slot slots (2 * j) ∷ (slot slots (2 * j + 1) ∷ []) → i < 2 → slot items i ≡ slot slots (2 * j + i)
held_at slots items j zero e l = rw (e, add-zero) refl
held_at slots items j (suc zero) e l = rw e refl
held_at slots items j (suc (suc i)) e l = absurd (omega arith)

pub turn_at :
    (slots items here : Slots) (seen : Set) (j i : ℕ) (now_seen : Set) (x : Item) (k : ℕ) (grown : Set) → Settled 512 slots → seen j ≡ true →
    (here ≡ slots) × Sofar slots seen j (2 * j + i) now_seen → items ≡ slot slots (2 * j) ∷ (slot slots (2 * j + 1) ∷ []) → i < 2 → Lies items i x → k ≡ other x j →
    (k < 512 → grown ≡ also now_seen k) → Turn slots seen j (2 * j + i) now_seen x k grown
turn_at slots items here seen j i now_seen x k grown settled marked inv held small there leads put =
    record { settled = settled; marked = marked; sofar = inv.1; here = omega arith; lies = lies; leads = leads; inside = inside; put = put inside }
  where
    lies : Lies slots (2 * j + i) x
    lies = sym (held_at slots items j i held small) ∙ there

    inside : k < 512
    inside = omega (arith, leads, (other_differs slots 512 (2 * j + i) x j settled.ends settled.apart lies (omega arith)).0)

-- where k is seen in the end, both ends of x are
turn_ends : (slots : Slots) (seen : Set) (j p : ℕ) (now_seen : Set) (x : Item) (k : ℕ) (grown then_seen : Set) → Turn slots seen j p now_seen x k grown → Within now_seen then_seen → then_seen k ≡ true → (y : Item) → Lies slots p y → (then_seen (one y) ≡ true) × (then_seen (two y) ≡ true)
turn_ends slots seen j p now_seen x k grown then_seen t grew has y lies =
    let same : x ≡ y = cc (t.lies, lies) in
    let at : k ≡ other y j = t.leads ∙ ap (λ z. other z j) same in
    other_seen slots p y j then_seen t.settled.ends lies t.here (grew j (t.sofar.spread.grew j t.marked)) (ap then_seen (sym at) ∙ has)

-- k was seen before: the slot is done
pub turn_seen : (slots : Slots) (seen : Set) (j p q : ℕ) (now_seen : Set) (x : Item) (k : ℕ) (grown : Set) → q ≡ p + 1 → Turn slots seen j p now_seen x k grown → now_seen k ≡ true → Sofar slots seen j q grown
turn_seen slots seen j p q now_seen x k grown next t old =
    let same : now_seen ≡ grown = fun_ext (λ i. grind (arith, nat_tests)) ∙ sym t.put in
    subst (Sofar slots seen j q) same (sofar_passed slots seen j p q now_seen now_seen next t.sofar t.sofar.spread (λ _ h. h) (turn_ends slots seen j p now_seen x k grown now_seen t (λ _ h. h) old))

-- k is new: the call for it may be made
pub turn_ready :
    (slots : Slots) (seen : Set) (j p : ℕ) (now_seen : Set) (x : Item) (k : ℕ) (grown : Set) → Turn slots seen j p now_seen x k grown →
    now_seen k ≡ false → (unseen grown < unseen seen) × (grown k ≡ true)
turn_ready slots seen j p now_seen x k grown t new = (
  rw t.put (unseen_falls seen now_seen k t.sofar.spread.grew t.inside new),
  rw t.put (or_right (now_seen k) (eqb k k) (eq-eqb k k refl)),
)

-- no room can be made at k: the slot is done
pub turn_stuck :
    (slots after : Slots) (seen : Set) (j p q : ℕ) (now_seen : Set) (x : Item) (k : ℕ) (grown then_seen : Set) → q ≡ p + 1 → Turn slots seen j p now_seen x k grown →
    now_seen k ≡ false → room slots k ≡ 0 → Stuck slots grown k after then_seen → Sofar slots seen j q then_seen
turn_stuck slots after seen j p q now_seen x k grown then_seen next t new full stuck =
    let there : Stuck slots (also now_seen k) k after then_seen = subst (λ s. Stuck slots s k after then_seen) t.put stuck in
    let here : less seen j (p / 2) ≡ false = rw t.here (and_right (seen j) _ (not_from_true _ (eq-eqb j j refl))) in
    let leads : (js : Set) → ClosedBut slots seen j js → js j ≡ true → js k ≡ true =
    λ js closed has. ap js t.leads ∙ other_in x j js (closed p x t.lies (ap js t.here ∙ has) here) in
    let more : Within now_seen then_seen = λ i h. there.spread.grew i (or_left (now_seen i) (eqb i k) h) in
    sofar_passed slots seen j p q now_seen then_seen next t.sofar (spread_more slots after seen j k now_seen then_seen t.sofar.spread new leads full there) more
    (turn_ends slots seen j p now_seen x k grown then_seen t more (there.spread.grew k (or_right (now_seen k) (eqb k k) (eq-eqb k k refl))))
