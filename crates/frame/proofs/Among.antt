-- Which bars of a set are among some joints, how many they are, and that parts of free sets are free.
use Rattle.std.proofs.Common.{◌≡◌, ℕ, ◌+◌, ◌<◌, ◌≤◌, Bool, true, false, cond, not, ◌&&◌, ◌||◌, eqb, sym, ap, ◌∙◌, ap₂, arith}
use Rattle.std.proofs.lemmas.Bool.{and_parts, and_from}
use Rattle.std.proofs.lemmas.Bool.Decides.{nat_tests}
use Rattle.sets.specs.Sets.{Set, also, less, both, either, Within, count, over}
use Rattle.frame.specs.Frame.{Bar, Frame, size, bar_at, Sound, among, induced, Free, Part, Most}
use Rattle.frame.specs.Laws.{Supermodular}
use Rattle.sets.proofs.Counts.{count_le, count_same, count_either_both, count_split, count_also_both, over_plus, over_items}

-- what it says of a bar to be among some joints, in each direction
pub among_parts : (f : Frame) (js bs : Set) (k : ℕ) → among f js bs k ≡ true → (bs k ≡ true) × (js (bar_at f k).one ≡ true) × (js (bar_at f k).two ≡ true)
unfolding among
among_parts f js bs k h =
    let p = and_parts _ _ h in
    let q = and_parts _ _ p.1 in
    (p.0, q.0, q.1)

pub among_from : (f : Frame) (js bs : Set) (k : ℕ) → bs k ≡ true → js (bar_at f k).one ≡ true → js (bar_at f k).two ≡ true → among f js bs k ≡ true
unfolding among
among_from f js bs k b o t = and_from _ _ b (and_from _ _ o t)

-- the same as a test, of a bar that is read and of whether it is in the set
pub among_is : (f : Frame) (js bs : Set) (k : ℕ) (b : Bar) (m : Bool) → b ≡ bar_at f k → m ≡ bs k → (m && (js b.one && js b.two)) ≡ among f js bs k
unfolding among
among_is f js bs k b m e d = ap₂ (λ (c : Bar) (t : Bool). t && (js c.one && js c.two)) e d

-- more joints and more bars: a bar among the joints stays among them
ends_le : (f : Frame) (js is bs cs : Set) → ((k : ℕ) → k < size f → (js (bar_at f k).one ≡ true → is (bar_at f k).one ≡ true) × (js (bar_at f k).two ≡ true → is (bar_at f k).two ≡ true)) → Part f bs cs → induced f js bs ≤ induced f is cs
unfolding Part
ends_le f js is bs cs w p =
    count_le (size f) _ _ λ k b h.
    let a = among_parts f js bs k h in
    among_from f is cs k (p k b a.0) ((w k b).0 a.1) ((w k b).1 a.2)

pub induced_le : (f : Frame) (js is bs cs : Set) → Within js is → Part f bs cs → induced f js bs ≤ induced f is cs
induced_le f js is bs cs w = ends_le f js is bs cs (λ k b. (w _, w _))

-- in a sound frame only the joints of the frame matter
pub induced_le_sound : (f : Frame) (js is bs cs : Set) → Sound f → ((j : ℕ) → j < f.joints → js j ≡ true → is j ≡ true) → Part f bs cs → induced f js bs ≤ induced f is cs
induced_le_sound f js is bs cs s w = ends_le f js is bs cs (λ k b. (w _ (s.inside k b).0, w _ (s.inside k b).1))

pub induced_same_joints : (f : Frame) (js is bs : Set) → Sound f → ((j : ℕ) → j < f.joints → js j ≡ is j) → induced f js bs ≡ induced f is bs
unfolding Part
induced_same_joints f js is bs s h =
    omega (arith, induced_le_sound f js is bs bs s (λ j b e. sym (h j b) ∙ e) (λ _ _ e. e), induced_le_sound f is js bs bs s (λ j b e. h j b ∙ e) (λ _ _ e. e))

-- there are no more bars among some joints than bars in the set, and as many if all joints are there
pub induced_most : (f : Frame) (js bs : Set) → induced f js bs ≤ count (size f) bs
induced_most f js bs = count_le (size f) _ _ λ k b h. (among_parts f js bs k h).0

pub induced_all : (f : Frame) (js bs : Set) → Sound f → ((j : ℕ) → j < f.joints → js j ≡ true) → induced f js bs ≡ count (size f) bs
induced_all f js bs s a =
    omega (
      arith,
      induced_most f js bs,
      count_le (size f) bs (among f js bs) λ k b h. among_from f js bs k h (a _ (s.inside k b).0) (a _ (s.inside k b).1),
    )

-- sets of bars that agree have as many bars among some joints
pub induced_same : (f : Frame) (js xs ys : Set) → ((k : ℕ) → k < size f → xs k ≡ ys k) → induced f js xs ≡ induced f js ys
unfolding among
induced_same f js xs ys h = count_same (size f) _ _ λ k b. ap (λ v. v && (js (bar_at f k).one && js (bar_at f k).two)) (h k b)

-- the union and the intersection of two sets of bars
pub induced_either_both : (f : Frame) (js xs ys : Set) → induced f js (either xs ys) + induced f js (both xs ys) ≡ induced f js xs + induced f js ys
unfolding among
induced_either_both f js xs ys =
    omega (
      arith,
      count_either_both (size f) (among f js xs) (among f js ys),
      count_same (size f) (among f js (either xs ys)) (either (among f js xs) (among f js ys)) (λ k b. grind (arith, nat_tests)),
      count_same (size f) (among f js (both xs ys)) (both (among f js xs) (among f js ys)) (λ k b. grind (arith, nat_tests)),
    )

-- a test splits a set of bars in two
pub induced_split : (f : Frame) (js bs t : Set) → induced f js bs ≡ induced f js (both bs t) + induced f js (λ k. bs k && not (t k))
unfolding among
induced_split f js bs t =
    omega (
      arith,
      count_split (size f) (among f js bs) t,
      count_same (size f) (among f js (both bs t)) (both (among f js bs) t) (λ k b. grind (arith, nat_tests)),
      count_same (size f) (among f js (λ k. bs k && not (t k))) (λ k. among f js bs k && not (t k)) (λ k b. grind (arith, nat_tests)),
    )

-- the bars among the union of two groups of joints, and those among the intersection
pub supermodular : Supermodular
unfolding among
supermodular f js is bs =
    omega (
      arith,
      count_either_both (size f) (among f js bs) (among f is bs),
      count_le (size f) (either (among f js bs) (among f is bs)) (among f (either js is) bs) (λ k b h. grind (arith, nat_tests)),
      count_le (size f) (both (among f js bs) (among f is bs)) (among f (both js is) bs) (λ k b h. grind (arith, nat_tests)),
    )

-- one bar more counts among the joints if both of its ends are there
pub induced_also : (f : Frame) (js xs : Set) (i : ℕ) → i < size f → xs i ≡ false → induced f js (also xs i) ≡ induced f js xs + cond (js (bar_at f i).one && js (bar_at f i).two) 1 0
unfolding among
induced_also f js xs i = count_also_both (size f) xs (λ k. js (bar_at f k).one && js (bar_at f k).two) i

-- one joint less: the bars with an end there are no more among the joints
pub induced_less : (f : Frame) (js bs : Set) (j : ℕ) → induced f js bs ≡ induced f (less js j) bs + count (size f) (λ k. among f js bs k && (eqb (bar_at f k).one j || eqb (bar_at f k).two j))
unfolding among
induced_less f js bs j =
    omega (
      arith,
      count_split (size f) (among f js bs) (λ k. eqb (bar_at f k).one j || eqb (bar_at f k).two j),
      count_same (size f) (among f (less js j) bs) (λ k. among f js bs k && not (eqb (bar_at f k).one j || eqb (bar_at f k).two j)) (λ k b. grind (arith, nat_tests)),
    )

-- a part of a part is a part, and a part of a free set is free
pub part_trans : (f : Frame) (xs ys zs : Set) → Part f xs ys → Part f ys zs → Part f xs zs
unfolding Part
part_trans f xs ys zs p q k b e = q k b (p k b e)

pub free_part : (f : Frame) (xs bs : Set) → Free f bs → Part f xs bs → Free f xs
unfolding Free
free_part f xs bs h p js two = omega (arith, h js two, induced_le f js js xs bs (λ _ e. e) p)

-- sets that agree on the bars of the frame are parts of each other, free together, and largest free parts together
pub part_same : (f : Frame) (xs ys : Set) → ((k : ℕ) → k < size f → xs k ≡ ys k) → Part f ys xs
unfolding Part
part_same f xs ys h k b e = h k b ∙ e

pub free_same : (f : Frame) (xs ys : Set) → ((k : ℕ) → k < size f → xs k ≡ ys k) → Free f xs → Free f ys
free_same f xs ys h free = free_part f ys xs free (part_same f xs ys h)

pub most_same : (f : Frame) (bs xs ys : Set) → ((k : ℕ) → k < size f → xs k ≡ ys k) → Most f bs xs → Most f bs ys
most_same f bs xs ys h m = record {
  part = part_trans f ys xs bs (part_same f xs ys h) m.part;
  free = free_same f xs ys h m.free;
  most = λ zs p free. omega (arith, m.most zs p free, count_same (size f) xs ys h);
}

-- how many ends at a joint the bars of a set have
unfoldable pub degree : Frame → Set → ℕ → ℕ
degree f bs j = count (size f) (λ k. bs k && eqb (bar_at f k).one j) + count (size f) (λ k. bs k && eqb (bar_at f k).two j)

-- in a sound frame, the degrees of some joints sum up to the bars with an end there, and once more those with both ends there
pub degrees : (f : Frame) (js bs : Set) → Sound f → over f.joints js (degree f bs) ≡ count (size f) (λ k. bs k && (js (bar_at f k).one || js (bar_at f k).two)) + induced f js bs
unfolding degree among
degrees f js bs s =
    omega (
      arith,
      over_plus f.joints js (λ j. count (size f) (λ k. bs k && eqb (bar_at f k).one j)) (λ j. count (size f) (λ k. bs k && eqb (bar_at f k).two j)),
      over_items f.joints (size f) js bs (λ k. (bar_at f k).one) (λ k b _. (s.inside k b).0),
      over_items f.joints (size f) js bs (λ k. (bar_at f k).two) (λ k b _. (s.inside k b).1),
      count_either_both (size f) (λ k. bs k && js (bar_at f k).one) (λ k. bs k && js (bar_at f k).two),
      count_same (size f) (λ k. bs k && (js (bar_at f k).one || js (bar_at f k).two)) (either (λ k. bs k && js (bar_at f k).one) (λ k. bs k && js (bar_at f k).two)) (λ k b. grind (arith, nat_tests)),
      count_same (size f) (among f js bs) (both (λ k. bs k && js (bar_at f k).one) (λ k. bs k && js (bar_at f k).two)) (λ k b. grind (arith, nat_tests)),
    )
