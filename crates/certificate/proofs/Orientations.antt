-- Lists are right: among some joints with a bar of the set among them, that bar's row gives every bar among them, and three copies, to
-- these joints, two each at most.
use Rattle.std.proofs.Common.{◌≡◌, ℕ, ◌+◌, ◌*◌, ◌<◌, ◌≤◌, true, ◌&&◌, eqb, refl, ap, ◌∙◌, inl, inr, arith}
use Rattle.std.proofs.lemmas.Bool.{and_from, cases_lt, lt-ltb, le-ltb}
use Rattle.sets.specs.Sets.{Set, count}
use Rattle.sets.proofs.Counts.{count_le, count_some, count_plus, count_all, over_const_le, over_items}
use Rattle.frame.specs.Frame.{Frame, Sound, size, among, induced, Free}
use Rattle.frame.proofs.Among.{among_parts}
use Rattle.certificate.specs.Laws.{ListsRight}
use Rattle.certificate.specs.Lists.{width, item, given, Row, ShownFree}

-- the items of a row: below the bars the bars themselves, behind them the own bar
item_bar : (f : Frame) (own i : ℕ) → i < size f → item f own i ≡ i
item_bar f own i l = rw (lt-ltb i (size f) l) refl

item_copy : (f : Frame) (own i : ℕ) → size f ≤ i → item f own i ≡ own
item_copy f own i l = rw (le-ltb i (size f) l) refl

pub item_below : (f : Frame) (own i : ℕ) → own < size f → item f own i < size f
item_below f own i l = elim (cases_lt i (size f)) [ inl a ↦ rw (item_bar f own i a) a | inr a ↦ rw (item_copy f own i a) l ]

-- an item that is given to an end of its bar is given to a joint of any group that has both ends
given_to : (f : Frame) (js bs : Set) (own : ℕ) (at : ℕ → ℕ) (i : ℕ) → Row f bs own at → i < width f → among f js bs (item f own i) ≡ true → (bs (item f own i) && js (at i)) ≡ true
given_to f js bs own at i r l h =
    let p = among_parts f js bs (item f own i) h in
    and_from _ _ p.0 (elim (r.ends i l p.0) [ inl e ↦ ap js e ∙ p.1 | inr e ↦ ap js e ∙ p.2 ])

-- a row gives to a group that has its own bar among it every bar among it, and three copies
all_given : (f : Frame) (js bs : Set) (own : ℕ) (at : ℕ → ℕ) → Row f bs own at → own < size f → among f js bs own ≡ true → induced f js bs + 3 ≤ count (width f) (λ i. bs (item f own i) && js (at i))
all_given f js bs own at r l h =
    omega (
      arith,
      count_plus (size f) 3 (λ i. bs (item f own i) && js (at i)),
      count_le (size f) (among f js bs) (λ i. bs (item f own i) && js (at i)) (λ k b a. given_to f js bs own at k r (omega arith) (ap (among f js bs) (item_bar f own k b) ∙ a)),
      count_all 3 (λ c. bs (item f own (size f + c)) && js (at (size f + c))) (λ c b. given_to f js bs own at (size f + c) r (omega arith) (ap (among f js bs) (item_copy f own (size f + c) (omega arith)) ∙ h)),
    )

-- the joints of a group are given two each at most
two_each_given : (f : Frame) (js bs : Set) (own : ℕ) (at : ℕ → ℕ) → Sound f → Row f bs own at → own < size f → count (width f) (λ i. bs (item f own i) && js (at i)) ≤ 2 * count f.joints js
unfolding given
two_each_given f js bs own at s r l =
    omega (
      arith,
      over_items f.joints (width f) js (λ i. bs (item f own i)) at inside,
      over_const_le f.joints js (λ j. count (width f) (λ i. bs (item f own i) && eqb (at i) j)) 2 (λ j b _. r.two_each j b),
    )
  where
    inside : (i : ℕ) → i < width f → bs (item f own i) ≡ true → at i < f.joints
    inside i b e =
        let ends = s.inside (item f own i) (item_below f own i l) in
        elim (r.ends i b e) [ inl a ↦ rw a ends.0 | inr a ↦ rw a ends.1 ]

pub lists_right : ListsRight
unfolding Free ShownFree
lists_right f bs at s shown js two =
    elim (cases_lt 0 (induced f js bs)) [
      | inl some ↦
          (let k = count_some (size f) (among f js bs) some in
          let r = shown k.0 k.1 (among_parts f js bs k.0 k.2).0 in
          omega (arith, all_given f js bs k.0 (at k.0) r k.1 k.2, two_each_given f js bs k.0 (at k.0) s r k.1))
      | inr l ↦ omega arith
    ]
