-- An item that is carried from one slot to another: the same items are placed, and the board stands as it should.
use Rattle.std.proofs.Common.{◌≡◌, ℕ, ◌+◌, ◌*◌, ◌/◌, ◌<◌, true, false, ◌⊎◌, length, Some, None, Option, sym, ap, ◌∙◌, subst, inl, inr, arith}
use Rattle.std.proofs.lemmas.Bool.{cases_eq, both_ways, or_left}
use Rattle.sets.specs.Sets.{Set, also, Within}
use Rattle.pebble.specs.declared.item.Item.{Item}
use Rattle.pebble.specs.Slots.{Slots, slot, Lies, Placed, SameItems, Settled, is_end, other, room, vacant}
use Rattle.pebble.specs.Moves.{Moved}
use Rattle.pebble.proofs.Searches.{Turn, other_differs}

-- item x has been carried from slot p to slot f, which was empty; nothing else has changed
pub record Carried (before : Slots) (p f : ℕ) (x : Item) (after : Slots) : Type 0 where
  pub long : length after ≡ length before
  pub was : Lies before p x
  pub left : slot after p ≡ None
  pub free : slot before f ≡ None
  pub lies : Lies after f x
  pub rest : (t : ℕ) → (t ≡ p → ⊥) → (t ≡ f → ⊥) → slot after t ≡ slot before t

-- where an item lay before that lies in slot s now: there too, or it is the one that was carried
came_from :
    (before : Slots) (p f : ℕ) (x : Item) (after : Slots) → Carried before p f x after →
    (s : ℕ) (y : Item) → Lies after s y → ((s ≡ f) × (y ≡ x)) ⊎ ((s ≡ p → ⊥) × Lies before s y)
came_from before p f x after c s y lies =
    elim (cases_eq s f) [
      | inl e ↦ inl (e, same (ap (slot after) (sym e) ∙ lies) c.lies)
      | inr d ↦ elim (cases_eq s p) [
        | inl e ↦ cc (lies, ap (slot after) e ∙ c.left)
        | inr h ↦ inr (h, sym (c.rest s h d) ∙ lies)
      ]
    ]
  where
    same : {o : Option Item} → o ≡ Some y → o ≡ Some x → y ≡ x
    same p q = cc

-- exactly the same items are placed
pub carried_same : (before : Slots) (p f : ℕ) (x : Item) (after : Slots) → Carried before p f x after → SameItems before after
carried_same before p f x after c y = (there, back)
  where
    there : Placed before y → Placed after y
    there h =
        elim (cases_eq h.0 p) [
          | inl e ↦ let same : y ≡ x = cc (ap (slot before) e, h.1, c.was) in (f, c.lies ∙ ap Some (sym same))
          | inr d ↦ elim (cases_eq h.0 f) [
            | inl e ↦ cc (h.1, ap (slot before) e ∙ c.free)
            | inr g ↦ (h.0, c.rest h.0 d g ∙ h.1)
          ]
        ]

    back : Placed after y → Placed before y
    back h = elim (came_from before p f x after c h.0 y h.1) [ inl e ↦ (p, c.was ∙ ap Some (sym e.1)) | inr l ↦ (h.0, l.1) ]

-- an item that is carried to one of its ends leaves all items lying as they should, and the table as long as it was
pub carried_settled :
    (n : ℕ) (before : Slots) (p f : ℕ) (x : Item) (after : Slots) → Carried before p f x after → is_end x (f / 2) ≡ true → Settled n before →
    Settled n after × (length after ≡ length before)
carried_settled n before p f x after c end st = (
  record {
    ends = λ s y lies. elim (from s y lies) [ inl e ↦ ap (λ t. is_end y (t / 2)) e.0 ∙ ap (λ z. is_end z (f / 2)) e.1 ∙ end | inr l ↦ st.ends s y l.1 ];
    apart = λ s y lies. let h = (carried_same before p f x after c y).1 (s, lies) in st.apart h.0 y h.1;
    once = λ s t both.
        let y = both.0 in
        let z = both.1 in
        let same = both.4 in
        elim (from s y both.2) [
          | inl e ↦ elim (from t z both.3) [
            | inl d ↦ e.0 ∙ sym d.0
            | inr l ↦ absurd (l.0 (st.once t p (z, x, l.1, c.was, sym same ∙ ap (λ i. i.bar.0) e.1)))
          ]
          | inr k ↦ elim (from t z both.3) [
            | inl d ↦ absurd (k.0 (st.once s p (y, x, k.1, c.was, same ∙ ap (λ i. i.bar.0) d.1)))
            | inr l ↦ st.once s t (y, z, k.1, l.1, same)
          ]
        ];
  },
  c.long,
)
  where
    from : (s : ℕ) (y : Item) → Lies after s y → ((s ≡ f) × (y ≡ x)) ⊎ ((s ≡ p → ⊥) × Lies before s y)
    from = came_from before p f x after c

-- one slot of joint j has been emptied, and the other is as it was
pub room_more :
    (before after : Slots) (j p : ℕ) (x : Item) → p / 2 ≡ j → Lies before p x → slot after p ≡ None →
    ((t : ℕ) → t / 2 ≡ j → (t ≡ p → ⊥) → slot after t ≡ slot before t) → room after j ≡ room before j + 1
room_more before after j p x at was left rest =
    elim (cases_eq p (2 * j)) [
      | inl e ↦ let q : (2 * j + 1 ≡ p → ⊥) = (λ d. omega arith) in
          omega (arith, ap vacant (ap (slot after) (sym e) ∙ left), ap vacant (ap (slot before) (sym e) ∙ was), ap vacant (rest (2 * j + 1) (omega arith) q))
      | inr d ↦ let e : p ≡ 2 * j + 1 = omega arith in
          omega (arith, ap vacant (ap (slot after) (sym e) ∙ left), ap vacant (ap (slot before) (sym e) ∙ was), ap vacant (rest (2 * j) (omega arith) (λ q. d (sym q))))
    ]

-- room was made at the other end of the item in slot p of joint j, and the item was carried there: so room was made at j
pub passed_on :
    (slots between after : Slots) (seen : Set) (j p f : ℕ) (now_seen : Set) (x : Item) (k : ℕ) (grown : Set) → Turn slots seen j p now_seen x k grown →
    now_seen k ≡ false → Moved slots grown k f between →
    length after ≡ length between → slot after p ≡ slot between f → slot after f ≡ slot between p →
    ((t : ℕ) → (t ≡ p → ⊥) → (t ≡ f → ⊥) → slot after t ≡ slot between t) →
    Moved slots seen j p after × (room after j ≡ room slots j + 1) × (Settled 512 between → Settled 512 after × (length after ≡ length between))
passed_on slots between after seen j p f now_seen x k grown turn new made long out into rest = (
  record {
    here = turn.here;
    empty = carried.left;
    same = λ y. (λ h. (carried_same between p f x after carried y).0 ((moved.same y).0 h), λ h. (moved.same y).1 ((carried_same between p f x after carried y).1 h));
    kept = kept;
  },
  room_more slots after j p x turn.here turn.lies carried.left (λ t e d. kept t (ap seen e ∙ turn.marked) d),
  carried_settled 512 between p f x after carried (ap (is_end x) (moved.here ∙ turn.leads) ∙ facts.2),
)
  where
    facts : (other x j < 512) × (other x j ≡ j → ⊥) × (is_end x (other x j) ≡ true) × (is_end x j ≡ true)
    facts = other_differs slots 512 p x j turn.settled.ends turn.settled.apart turn.lies turn.here

    moved : Moved slots (also now_seen k) k f between
    moved = subst (λ s. Moved slots s k f between) turn.put made

    grew : Within seen now_seen
    grew = turn.sofar.spread.grew

    apart : p ≡ f → ⊥
    apart d = facts.1 (sym turn.leads ∙ sym moved.here ∙ ap (λ s. s / 2) (sym d) ∙ turn.here)

    held : slot between p ≡ slot slots p
    held = moved.kept p (or_left (now_seen (p / 2)) _ (grew (p / 2) (ap seen turn.here ∙ turn.marked))) apart

    carried : Carried between p f x after
    carried = record { long = long; was = held ∙ turn.lies; left = out ∙ moved.empty; free = moved.empty; lies = into ∙ held ∙ turn.lies; rest = rest }

    kept : (t : ℕ) → seen (t / 2) ≡ true → (t ≡ p → ⊥) → slot after t ≡ slot slots t
    kept t h d =
        let away : t ≡ f → ⊥ = λ q. both_ways _ new (ap now_seen (sym moved.here ∙ ap (λ s. s / 2) (sym q)) ∙ grew (t / 2) h) in
        carried.rest t d away ∙ moved.kept t (or_left (now_seen (t / 2)) _ (grew (t / 2) h)) away
