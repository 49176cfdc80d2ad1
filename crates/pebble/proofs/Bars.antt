-- The bars of a frame that lie on a board, after a move, after a bar was put, and after one was taken out.
use Rattle.std.proofs.Common.{◌≡◌, ℕ, ◌<◌, true, not, eqb, length, set, Some, None, Option, sym, refl, ap, ◌∙◌, subst, inl, inr}
use Rattle.std.proofs.lemmas.List.{get_or_past, get_or-set_same, get_or-set_other}
use Rattle.std.proofs.lemmas.Bool.{cases_lt, and_parts, and_from, or_cases, or_left, or_right, eqb-true, eqb-false, eq-eqb, ne_eqb, not-true, not_from_false}
use Rattle.sets.proofs.First.{some_first}
use Rattle.pebble.specs.declared.item.Item.{Item}
use Rattle.pebble.specs.Slots.{Slots, slot, Lies, name}
use Rattle.pebble.specs.Calls.{named, where_is}
use Rattle.pebble.specs.Laws.{NothingOriented, MovesOrient, PutOrients, TakeOrients}
use Rattle.pebble.proofs.Tables.{nothing_lies, nothing_settled, lies_set}

pub nothing_oriented : NothingOriented
nothing_oriented f = record {
  settled = nothing_settled f.joints;
  items = λ s x lies. absurd (nothing_lies s x lies);
  all = λ k l e. cc;
}

pub moves_orient : MovesOrient
moves_orient f xs before after o st same = record {
  settled = st;
  items = λ s x lies. let h = (same x).1 (s, lies) in o.items h.0 x h.1;
  all = λ k l e.
      let a = o.all k l e in
      let h = (same a.1).0 (a.0, a.2) in
      (h.0, a.1, h.1, a.3);
}

pub put_orients : PutOrients
put_orients f xs before after x at o st inside is (s, put) = record {
  settled = st;
  items = λ t y lies.
      elim (lies_set before s (Some x) t y put.inside (was t y lies)) [
        | inl e ↦ let d : y ≡ x = cc e.1 in rw d (inside, or_right (xs (name x)) _ (eq-eqb (name x) (name x) refl), is)
        | inr l ↦ let i = o.items t y l.1 in (i.0, or_left (xs (name y)) _ i.1, i.2)
      ];
  all = λ k l e.
      elim (or_cases (xs k) (eqb k (name x)) e) [
        | inl h ↦
            let a = o.all k l h in
            let d : a.0 ≡ s → ⊥ = λ q. cc (a.2, ap (slot before) q ∙ put.empty) in
            (a.0, a.1, now a.0 a.1 (get_or-set_other before s a.0 (Some x) None d ∙ a.2), a.3)
        | inr h ↦ (s, x, now s x (get_or-set_same before s (Some x) None put.inside), sym (eqb-true _ _ h))
      ];
}
  where
    was : (t : ℕ) (y : Item) → Lies after t y → Lies (set before s (Some x)) t y
    was t y lies = subst (λ l. Lies l t y) put.after_is lies

    now : (t : ℕ) (y : Item) → Lies (set before s (Some x)) t y → Lies after t y
    now t y lies = subst (λ l. Lies l t y) (sym put.after_is) lies

-- the item of identity k, in the slot where it is found
found_item : (slots : Slots) (k s : ℕ) → where_is slots k ≡ Some s → (s < length slots) × ((x : Item) × Lies slots s x × (name x ≡ k))
found_item slots k s e = (inside, found (slot slots s) refl)
  where
    here : named k (slot slots s) ≡ true
    here = (some_first 1024 (λ t. named k (slot slots t)) s e).1

    found : (o : Option Item) → slot slots s ≡ o → (x : Item) × Lies slots s x × (name x ≡ k)
    found (Some x) d = (x, d, eqb-true (name x) k (ap (named k) (sym d) ∙ here))
    found None d = cc (ap (named k) (sym d) ∙ here)

    inside : s < length slots
    inside =
        elim (cases_lt s (length slots)) [
          | inl l ↦ l
          | inr g ↦ let x = found (slot slots s) refl in cc (x.1, get_or_past slots s None g)
        ]

pub take_orients : TakeOrients
take_orients f xs before after k s r o st is taken = record {
  settled = st;
  items = λ t y lies.
      elim (lies_set before s None t y at.0 (subst (λ l. Lies l t y) taken.1 lies)) [
        | inl e ↦ cc e.1
        | inr l ↦
            let i = o.items t y l.1 in
            let d : name y ≡ k → ⊥ = λ q. l.0 (o.settled.once t s (y, x.0, l.1, x.1, q ∙ sym x.2)) in
            (i.0, and_from (xs (name y)) _ i.1 (not_from_false _ (ne_eqb (name y) k d)), i.2)
      ];
  all = λ j l e.
      let p = and_parts (xs j) (not (eqb j k)) e in
      let a = o.all j l p.0 in
      let d : a.0 ≡ s → ⊥ = λ q.
      let same : a.1 ≡ x.0 = cc (ap (slot before) q, a.2, x.1) in
      eqb-false j k (not-true (eqb j k) p.1) (sym a.3 ∙ ap (λ i. i.bar.0) same ∙ x.2) in
      (a.0, a.1, subst (λ l. Lies l a.0 a.1) (sym taken.1) (get_or-set_other before s a.0 None None d ∙ a.2), a.3);
}
  where
    at : (s < length before) × ((x : Item) × Lies before s x × (name x ≡ k))
    at = found_item before k s is

    x : (x : Item) × Lies before s x × (name x ≡ k)
    x = at.1
