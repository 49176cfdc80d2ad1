-- Counting what a row gives to each joint, item by item.
use Rattle.std.proofs.Common.{◌≡◌, ℕ, zero, suc, ◌+◌, ◌<◌, ◌≤◌, true, false, ◌&&◌, eqb, List, length, get_or, set, replicate, Some, Option, sym, refl, ap, ◌∙◌, inl, inr, arith}
use Rattle.std.proofs.lemmas.List.{length-replicate, length-set, get_or-replicate, get_or-set_same, get_or-set_other}
use Rattle.std.proofs.lemmas.Bool.{and_from, cases_eq, eq-eqb, ne_eqb}
use Rattle.std.specs.Bool.{then_some}
use Rattle.sets.specs.Sets.{Set, count}
use Rattle.sets.proofs.Counts.{count_step, count_most}
use Rattle.frame.specs.Frame.{Frame, Sound, size, bar_at, Allowed}
use Rattle.certificate.specs.Lists.{item, width, given, end_of, row_in}
use Rattle.frame.proofs.Frames.{taken}
use Rattle.certificate.proofs.Orientations.{item_below}

-- both ends of a bar of a sound frame are joints of the frame
end_below : (f : Frame) (k n : ℕ) → Sound f → k < size f → end_of (bar_at f k) n < f.joints
end_below f k zero s l = (s.inside k l).0
end_below f k (suc n) s l = (s.inside k l).1

-- an item that is given to a joint has its bar in the set, and the joint is the end that its number names
pub given_joint :
    (f : Frame) (bs : Set) (own i n joint : ℕ) → Allowed f → own < size f →
    ◌≡◌ {A = Option ℕ} (Some joint) (then_some (bs (item f own i)) (end_of (bar_at f (item f own i)) n)) →
    (bs (item f own i) ≡ true) × (end_of (bar_at f (item f own i)) n ≡ joint) × (joint < 512)
given_joint f bs own i n joint a l e =
    let s = taken _ _ _ (sym e) in
    (s.0, s.1, omega (arith, s.1, a.most_joints, end_below f (item f own i) n a.sound (item_below f own i l)))

-- the items that a row gives to joint j
abbrev pub to_joint : Frame → (bars : Set) → (own : ℕ) → (row : List ℕ) → (joint : ℕ) → Set
to_joint f bs own row j i = bs (item f own i) && eqb (row_in f own row i) j

-- a table of counts that has the items before item i
pub record Tallied (f : Frame) (bs : Set) (own : ℕ) (row : List ℕ) (i : ℕ) (counts : List ℕ) : Type 0 where
  pub long : length counts ≡ 512
  pub is : (j : ℕ) → j < 512 → get_or counts j 0 ≡ count i (to_joint f bs own row j)

pub tallied_none : (f : Frame) (bs : Set) (own : ℕ) (row counts : List ℕ) → counts ≡ replicate 512 0 → Tallied f bs own row 0 counts
unfolding count
tallied_none f bs own row counts e = record { long = ap length e ∙ length-replicate {A = ℕ} 512 0; is = λ j l. ap (λ xs. get_or xs j 0) e ∙ get_or-replicate 512 j 0 0 l }

pub tallied_skip : (f : Frame) (bs : Set) (own : ℕ) (row : List ℕ) (i : ℕ) (counts : List ℕ) → Tallied f bs own row i counts → bs (item f own i) ≡ false → Tallied f bs own row (i + 1) counts
tallied_skip f bs own row i counts t e = record { long = t.long; is = λ j l. omega (arith, t.is j l, count_step i (to_joint f bs own row j) false (rw e refl)) }

pub tallied_more :
    (f : Frame) (bs : Set) (own : ℕ) (row : List ℕ) (i joint : ℕ) (counts : List ℕ) → Tallied f bs own row i counts → bs (item f own i) ≡ true →
    row_in f own row i ≡ joint → joint < 512 → Tallied f bs own row (i + 1) (set counts joint (get_or counts joint 0 + 1))
tallied_more f bs own row i joint counts t b e lt = record { long = length-set counts joint (get_or counts joint 0 + 1) ∙ t.long; is = is }
  where
    is : (j : ℕ) → j < 512 → get_or (set counts joint (get_or counts joint 0 + 1)) j 0 ≡ count (i + 1) (to_joint f bs own row j)
    is j l =
        elim (cases_eq j joint) [
          | inl a ↦
              (let taken : true ≡ to_joint f bs own row j i = sym (and_from _ _ b (eq-eqb _ _ (e ∙ sym a))) in
              let read : get_or (set counts joint (get_or counts joint 0 + 1)) j 0 ≡ get_or counts j 0 + 1 =
              rw a (get_or-set_same counts joint (get_or counts joint 0 + 1) 0 (omega (arith, t.long))) in
              omega (arith, read, t.is j l, count_step i (to_joint f bs own row j) true taken))
          | inr a ↦
              (let left : false ≡ to_joint f bs own row j i = rw (b, e, ne_eqb joint j (λ q. a (sym q))) refl in
              omega (arith, get_or-set_other counts joint j (get_or counts joint 0 + 1) 0 a, t.is j l, count_step i (to_joint f bs own row j) false left))
        ]

-- a count is at most the items so far
pub tallied_le : (f : Frame) (bs : Set) (own : ℕ) (row : List ℕ) (i : ℕ) (counts : List ℕ) (j : ℕ) → Tallied f bs own row i counts → j < 512 → get_or counts j 0 ≤ i
tallied_le f bs own row i counts j t l = omega (arith, t.is j l, count_most i (to_joint f bs own row j))

pub tallied_all : (f : Frame) (bs : Set) (own : ℕ) (row : List ℕ) (i : ℕ) (counts : List ℕ) → Tallied f bs own row i counts → i ≡ width f → (j : ℕ) → j < 512 → get_or counts j 0 ≡ given f bs own (row_in f own row) j
unfolding given
tallied_all f bs own row i counts t e j l = t.is j l ∙ ap (λ n. count n (to_joint f bs own row j)) e
