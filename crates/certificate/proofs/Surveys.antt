-- A sheet, group by group: the sum so far, which bars are among the groups so far, and what follows once all groups are read.
use Rattle.std.proofs.Common.{◌≡◌, ℕ, ◌+◌, ◌-◌, ◌*◌, ◌<◌, ◌≤◌, Bool, true, false, cond, ◌||◌, ltb, List, length, get_or, take, replicate, Some, None, sym, refl, ap, ◌∙◌, ap₂, inl, inr, below_more, arith}
use Rattle.std.proofs.lemmas.List.{get_or_past, get_or-replicate, get_or-take}
use Rattle.std.proofs.lemmas.Bool.{and_parts, cases_lt, not-true, eqb-true, ltb-true, ltb-false}
use Rattle.std.proofs.lemmas.Bool.Decides.{nat_tests}
use Rattle.sets.specs.Sets.{Set, all, count, over, first}
use Rattle.sets.proofs.Counts.{count_step, count_some, count_pos, over_step, count_longer}
use Rattle.sets.proofs.First.{none_first, some_first}
use Rattle.frame.specs.Frame.{Frame, size, among}
use Rattle.frame.specs.Lent.{set_in}
use Rattle.frame.proofs.Among.{among_parts, among_from}
use Rattle.certificate.specs.Sheets.{Sheet, Covered, Wide, Covers, left_out}
use Rattle.certificate.specs.Verdicts.{SheetSays}
use Rattle.certificate.specs.declared.verdict.SheetVerdict.TheVariants.{Bound, TooSmall, Uncovered}
use Rattle.certificate.proofs.Bounding.{sheets_right}
use Rattle.certificate.proofs.Facts.{in_or_out}

-- a number that marks mean lies within them
within_marks : (marks : List ℕ) (k : ℕ) → set_in marks k ≡ true → k < length marks
unfolding set_in
within_marks marks k e =
    elim (cases_lt k (length marks)) [ inl l ↦ l | inr l ↦ (let one = eqb-true (get_or marks k 0) 1 e in let past = get_or_past marks k 0 l in absurd (omega arith)) ]

-- a group that is read from the marks of its row is that of the sheet, and has as many joints
pub joints_read : (row : List ℕ) (n : ℕ) (js : Set) → js ≡ set_in row → length row ≤ n → n ≤ 512 → count 512 js ≡ count n js
joints_read row n js in_row long few =
    let whole : n + (512 - n) ≡ 512 = omega arith in
    ap (λ m. count m js) (sym whole)
    ∙ count_longer n (512 - n) js (λ k e. omega (arith, long, within_marks row k (sym (ap (λ (s : Set). s k) in_row) ∙ e)))

-- the groups that have a bar among them
abbrev pub having : Frame → Sheet → (bar : ℕ) → Set
having f s k h = among f (s.group h) all k

-- what is known of a sheet when g groups have been read
pub record Surveyed (f : Frame) (s : Sheet) (covered : List Bool) (bound g : ℕ) : Type 0 where
  pub wide : Wide f s g
  pub marks : (k : ℕ) → k < size f → get_or covered k false ≡ ltb 0 (count g (having f s k))
  pub sum : bound + 3 * g ≡ 2 * over g all (λ h. count f.joints (s.group h)) + count (size f) s.alone
  pub small : bound ≤ 2048 + 1024 * g

pub surveyed_none : (f : Frame) (s : Sheet) (covered : List Bool) (bound : ℕ) → covered ≡ take (size f) (replicate 2048 false) → size f ≤ 2048 → bound ≡ count (size f) s.alone → bound ≤ 2048 → Surveyed f s covered bound 0
unfolding count over
surveyed_none f s covered bound e few b l = record { wide = λ h a. absurd (omega arith); marks = λ k a. ap (λ xs. get_or xs k false) e ∙ get_or-take (size f) (replicate 2048 false) k false a ∙ get_or-replicate 2048 k false false (omega arith); sum = omega (arith, b); small = omega arith }

-- one group more in a test of whether there is one
some_more : (g : ℕ) (t : Set) → ltb 0 (count (g + 1) t) ≡ (ltb 0 (count g t) || t g)
some_more g t = let step = count_step g t (t g) refl in grind (arith, nat_tests)

pub surveyed_more :
    (f : Frame) (s : Sheet) (covered marked : List Bool) (bound g joints : ℕ) (js : Set) → Surveyed f s covered bound g →
    js ≡ s.group g → joints ≡ count f.joints js → 2 ≤ joints → joints ≤ 512 →
    ((k : ℕ) → k < size f → get_or marked k false ≡ (get_or covered k false || among f js all k)) →
    Surveyed f s marked (bound + (2 * joints - 3)) (g + 1)
surveyed_more f s covered marked bound g joints js v is c two few m =
    let same : joints ≡ count f.joints (s.group g) = c ∙ ap (count f.joints) is in
    record {
      wide = below_more _ g v.wide (omega (arith, same, two));
      marks = λ k l. m k l ∙ ap₂ (λ (a b : Bool). a || b) (v.marks k l) (ap (λ i. among f i all k) is) ∙ sym (some_more g (having f s k));
      sum = omega (arith, v.sum, same, two, over_step g all (λ h. count f.joints (s.group h)) true refl);
      small = omega (arith, v.small, few);
    }

-- the marks say of a bar of the set whether it is among some group
pub marked : (f : Frame) (bs : Set) (s : Sheet) (k : ℕ) → bs k ≡ true → ltb 0 (count s.groups (having f s k)) ≡ true → Covered f bs s k
marked f bs s k b m =
    let h = count_some s.groups (having f s k) (ltb-true 0 _ m) in
    let p = among_parts f (s.group h.0) all k h.2 in
    inr (h.0, h.1, among_from f (s.group h.0) bs k b p.1 p.2)

pub unmarked : (f : Frame) (bs : Set) (s : Sheet) (k : ℕ) → s.alone k ≡ false → ltb 0 (count s.groups (having f s k)) ≡ false → Covered f bs s k → ⊥
unmarked f bs s k a m (inl e) = omega (arith, ap (λ (b : Bool). cond {A = ℕ} b 1 0) (sym e ∙ a))
unmarked f bs s k a m (inr (h, l, e)) =
    let p = among_parts f (s.group h) bs k e in
    omega (arith, ltb-false _ _ m, count_pos s.groups (having f s k) h l (among_from f (s.group h) all k refl p.1 p.2))

-- a bar of the set that is not left out is counted
is_counted :
    (f : Frame) (bs : Set) (s : Sheet) (covered : List Bool) (bound k : ℕ) → Surveyed f s covered bound s.groups → k < size f →
    left_out bs s.alone covered k ≡ false → bs k ≡ true → Covered f bs s k
is_counted f bs s covered bound k v l e b =
    elim (in_or_out (bs k) (s.alone k) (get_or covered k false) e b) [ inl a ↦ inl a | inr a ↦ marked f bs s k b (sym (v.marks k l) ∙ a) ]

-- what is said once all groups are read, and at a group that is too small
pub says_bound : (f : Frame) (bs : Set) (s : Sheet) (covered : List Bool) (bound : ℕ) → Surveyed f s covered bound s.groups → None ≡ first (size f) (left_out bs s.alone covered) → SheetSays (Bound bound) f bs s
says_bound f bs s covered bound v e =
    let covers : Covers f bs s = record { two = v.wide; counted = λ k l b. is_counted f bs s covered bound k v l (none_first (size f) (left_out bs s.alone covered) (sym e) k l) b } in
    (covers, v.sum, λ xs p free. omega (arith, sheets_right f bs xs s covers p free, v.sum))

pub says_uncovered : (f : Frame) (bs : Set) (s : Sheet) (covered : List Bool) (bound k : ℕ) → Surveyed f s covered bound s.groups → Some k ≡ first (size f) (left_out bs s.alone covered) → SheetSays (Uncovered (record { 0 = k })) f bs s
says_uncovered f bs s covered bound k v e =
    let w = some_first (size f) (left_out bs s.alone covered) k (sym e) in
    let in_set = and_parts _ _ w.1 in
    let out = and_parts _ _ in_set.1 in
    let no : Covered f bs s k → ⊥ = unmarked f bs s k (not-true _ out.0) (sym (v.marks k w.0) ∙ not-true _ out.1) in
    (v.wide, w.0, in_set.0, no, λ i l b. is_counted f bs s covered bound i v (omega (arith, l, w.0)) (w.2 i l) b, λ covers. no (covers.counted k w.0 in_set.0))

pub says_small : (f : Frame) (bs : Set) (s : Sheet) (covered : List Bool) (bound g : ℕ) → Surveyed f s covered bound g → g < s.groups → count f.joints (s.group g) < 2 → SheetSays (TooSmall (record { 0 = g })) f bs s
says_small f bs s covered bound g v l c = (l, c, v.wide, λ covers. omega (arith, c, covers.two g l))
