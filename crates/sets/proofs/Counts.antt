-- Laws of counts: how many numbers below n a set has, and sums over the numbers of a set.
use Rattle.std.proofs.Common.{◌≡◌, ℕ, zero, suc, ◌+◌, ◌*◌, ◌<◌, ◌≤◌, Bool, true, false, cond, not, ◌&&◌, eqb, sym, refl, ap, ◌∙◌, ⊎_elim, add-zero, add-suc, mul-zero, zero-mul, mul-add, add-one, arith}
use Rattle.std.proofs.lemmas.Bool.{cases_Bool, cases_eq, cases_order, and_parts, cond-true, cond-false, ne_eqb}
use Rattle.std.proofs.lemmas.Bool.Decides.{nat_tests}
use Rattle.sets.specs.Laws.{Counting}
use Rattle.sets.specs.Sets.{Set, also, less, both, either, count, over}

-- one number more to count, which is in the set or not: the step of a loop
pub count_step : (n : ℕ) (s : Set) (b : Bool) → b ≡ s n → count (n + 1) s ≡ count n s + cond b 1 0
unfolding count
count_step n s b h = rw (add-one n, h) (omega arith)

-- a set within another has no more numbers
pub count_le : (n : ℕ) (s t : Set) → ((k : ℕ) → k < n → s k ≡ true → t k ≡ true) → count n s ≤ count n t
unfolding count
count_le zero s t h = omega arith
count_le (suc n) s t h =
    let before = count_le n s t (λ k b. h k (omega arith)) in
    let here = h n (omega arith) in
    grind (arith, nat_tests)

-- sets that agree have as many numbers
pub count_same : (n : ℕ) (s t : Set) → ((k : ℕ) → k < n → s k ≡ t k) → count n s ≡ count n t
count_same n s t h = omega (arith, count_le n s t (λ k b e. sym (h k b) ∙ e), count_le n t s (λ k b e. h k b ∙ e))

-- of two sets, what is in one at least and what is in both
pub count_either_both : (n : ℕ) (s t : Set) → count n (either s t) + count n (both s t) ≡ count n s + count n t
unfolding count
count_either_both zero s t = omega arith
count_either_both (suc n) s t =
    let before = count_either_both n s t in
    grind (arith, nat_tests)

-- a test splits a set in two
pub count_split : (n : ℕ) (s t : Set) → count n s ≡ count n (both s t) + count n (λ k. s k && not (t k))
unfolding count
count_split zero s t = omega arith
count_split (suc n) s t =
    let before = count_split n s t in
    grind (arith, nat_tests)

pub count_either_le : (n : ℕ) (s t : Set) → count n (either s t) ≤ count n s + count n t
count_either_le n s t = omega (arith, count_either_both n s t)

-- a set with all numbers below n, what is not in a set, and a set with no number below n
pub count_all : (n : ℕ) (s : Set) → ((k : ℕ) → k < n → s k ≡ true) → count n s ≡ n
unfolding count
count_all zero s h = refl
count_all (suc n) s h =
    let before = count_all n s (λ k b. h k (omega arith)) in
    let here = h n (omega arith) in
    grind (arith, nat_tests)

pub count_not : (n : ℕ) (s : Set) → count n s + count n (λ k. not (s k)) ≡ n
count_not n s = sym (count_split n (λ _. true) s) ∙ count_all n (λ _. true) (λ _ _. refl)

pub count_none : (n : ℕ) (s : Set) → ((k : ℕ) → k < n → s k ≡ false) → count n s ≡ 0
count_none n s h = omega (arith, count_not n s, count_all n (λ k. not (s k)) (λ k b. ap not (h k b)))

pub count_most : (n : ℕ) (s : Set) → count n s ≤ n
count_most n s = omega (arith, count_not n s)

-- the set of one number
pub count_one : (n i : ℕ) → i < n → count n (λ k. eqb k i) ≡ 1
unfolding count
count_one zero i h = omega arith
count_one (suc n) i h =
    ⊎_elim
    (λ e. let before = count_none n (λ k. eqb k i) (λ k b. ne_eqb k i (omega arith)) in grind (arith, nat_tests))
    (λ d. let before = count_one n i (omega arith) in grind (arith, nat_tests))
    (cases_eq n i)

-- one number more
pub count_also : (n : ℕ) (s : Set) (i : ℕ) → i < n → s i ≡ false → count n (also s i) ≡ count n s + 1
count_also n s i h e =
    omega (arith, count_either_both n s (λ k. eqb k i), count_one n i h, count_none n (both s (λ k. eqb k i)) (λ k b. grind (arith, nat_tests)))

pub count_also_same : (n : ℕ) (s : Set) (i : ℕ) → s i ≡ true → count n (also s i) ≡ count n s
count_also_same n s i e = count_same n (also s i) s (λ k b. grind (arith, nat_tests))

-- one number more, of those that pass a test
pub count_also_both : (n : ℕ) (s t : Set) (i : ℕ) → i < n → s i ≡ false → count n (both (also s i) t) ≡ count n (both s t) + cond (t i) 1 0
count_also_both n s t i h e =
    ⊎_elim
    (λ y. omega (arith, count_same n (both (also s i) t) (also (both s t) i) (λ k b. grind (arith, nat_tests)), count_also n (both s t) i h (grind (arith, nat_tests)), cond-true {A = ℕ} (t i) 1 0 y))
    (λ o. omega (arith, count_same n (both (also s i) t) (both s t) (λ k b. grind (arith, nat_tests)), cond-false {A = ℕ} (t i) 1 0 o))
    (cases_Bool (t i))

-- one number less
pub count_less : (n : ℕ) (s : Set) (i : ℕ) → i < n → s i ≡ true → count n (less s i) + 1 ≡ count n s
count_less n s i h e = sym (count_also n (less s i) i h (grind (arith, nat_tests))) ∙ count_same n (also (less s i) i) s (λ k b. grind (arith, nat_tests))

pub count_less_same : (n : ℕ) (s : Set) (i : ℕ) → s i ≡ false → count n (less s i) ≡ count n s
count_less_same n s i e = count_same n (less s i) s (λ k b. grind (arith, nat_tests))

-- a set that is counted has a number below n
pub count_some : (n : ℕ) (s : Set) → 0 < count n s → (k : ℕ) × (k < n) × (s k ≡ true)
unfolding count
count_some zero s h = absurd (omega arith)
count_some (suc n) s h =
    ⊎_elim
    (λ e. (n, omega arith, e))
    (λ e. let r = count_some n s (omega (arith, rw e at h)) in (r.0, omega arith, r.2))
    (cases_Bool (s n))

pub count_pos : (n : ℕ) (s : Set) (i : ℕ) → i < n → s i ≡ true → 0 < count n s
count_pos n s i h e = omega (arith, count_less n s i h e)

-- a set of two numbers or more
pub count_two : (n : ℕ) (s : Set) (i j : ℕ) → i < n → j < n → (i ≡ j → ⊥) → s i ≡ true → s j ≡ true → 2 ≤ count n s
count_two n s i j h g d e f =
    omega (arith, count_less n s i h e, count_pos n (less s i) j g (grind (arith, nat_tests)))

pub count_two_of : (n : ℕ) (s : Set) → 2 ≤ count n s → (i : ℕ) × (j : ℕ) × (i < j) × (j < n) × (s i ≡ true) × (s j ≡ true)
count_two_of n s h =
    let a = count_some n s (omega arith) in
    let b = count_some n (less s a.0) (omega (arith, count_less n s a.0 a.1 a.2)) in
    let in_both : (s b.0 ≡ true) × (not (eqb b.0 a.0) ≡ true) = and_parts _ _ b.2 in
    let differ : a.0 ≡ b.0 → ⊥ = grind (arith, nat_tests) in
    ⊎_elim
    (λ e. absurd (differ e))
    (⊎_elim
    (λ l. (a.0, b.0, l, b.1, a.2, in_both.0))
    (λ l. (b.0, a.0, l, a.1, in_both.0, a.2)))
    (cases_order a.0 b.0)

-- a set within another that has no more numbers is the same set
pub count_tight : (n : ℕ) (s t : Set) → ((k : ℕ) → k < n → s k ≡ true → t k ≡ true) → count n t ≤ count n s → (k : ℕ) → k < n → t k ≡ true → s k ≡ true
count_tight n s t h l k b e =
    ⊎_elim
    (λ y. y)
    (λ o. absurd (omega (arith, count_also n s k b o, count_le n (also s k) t (λ i c d. let within = h i c in grind (arith, nat_tests)))))
    (cases_Bool (s k))

-- the numbers below n, and those from n on
pub count_plus : (n m : ℕ) (s : Set) → count (n + m) s ≡ count n s + count m (λ k. s (n + k))
unfolding count
count_plus n zero s = rw (add-zero n) (omega arith)
count_plus n (suc m) s = rw add-suc (omega (arith, count_plus n m s))

-- a set with no number from n on
pub count_longer : (n m : ℕ) (s : Set) → ((k : ℕ) → s k ≡ true → k < n) → count (n + m) s ≡ count n s
count_longer n m s h =
    let rest = count_none m (λ k. s (n + k)) λ k _. ⊎_elim (λ y. absurd (omega (arith, h (n + k) y))) (λ o. o) (cases_Bool (s (n + k))) in
    omega (arith, count_plus n m s)

-- one number more to sum over, which is in the set or not: the step of a loop
pub over_step : (n : ℕ) (s : Set) (w : ℕ → ℕ) (b : Bool) → b ≡ s n → over (n + 1) s w ≡ over n s w + cond b (w n) 0
unfolding over
over_step n s w b h = rw (add-one n, h) (omega arith)

-- smaller weights have a smaller sum
pub over_le : (n : ℕ) (js : Set) (v w : ℕ → ℕ) → ((k : ℕ) → k < n → js k ≡ true → v k ≤ w k) → over n js v ≤ over n js w
unfolding over
over_le zero js v w h = omega arith
over_le (suc n) js v w h =
    let before = over_le n js v w (λ k b. h k (omega arith)) in
    let here = h n (omega arith) in
    grind (arith, nat_tests)

pub over_same : (n : ℕ) (js : Set) (v w : ℕ → ℕ) → ((k : ℕ) → k < n → js k ≡ true → v k ≡ w k) → over n js v ≡ over n js w
over_same n js v w h =
    omega (arith, over_le n js v w (λ k b e. omega (arith, h k b e)), over_le n js w v (λ k b e. omega (arith, h k b e)))

-- sets that agree have the same sum, and one number less
pub over_agree : (n : ℕ) (s t : Set) (w : ℕ → ℕ) → ((k : ℕ) → k < n → s k ≡ t k) → over n s w ≡ over n t w
unfolding over
over_agree zero s t w h = refl
over_agree (suc n) s t w h =
    let before = over_agree n s t w (λ k b. h k (omega arith)) in
    let here = h n (omega arith) in
    grind (arith, nat_tests)

pub over_less : (n : ℕ) (s : Set) (w : ℕ → ℕ) (i : ℕ) → i < n → s i ≡ true → over n (less s i) w + w i ≡ over n s w
unfolding over
over_less zero s w i l e = absurd (omega arith)
over_less (suc n) s w i l e =
    ⊎_elim
    (λ same. let before = over_agree n (less s i) s w (λ k b. grind (arith, nat_tests)) in grind (arith, nat_tests))
    (λ other. let before = over_less n s w i (omega arith) e in grind (arith, nat_tests))
    (cases_eq n i)

-- the sum of two weights
pub over_plus : (n : ℕ) (js : Set) (v w : ℕ → ℕ) → over n js (λ k. v k + w k) ≡ over n js v + over n js w
unfolding over
over_plus zero js v w = refl
over_plus (suc n) js v w =
    let before = over_plus n js v w in
    grind (arith, nat_tests)

-- a weight that is the same for each number
over_all : (n : ℕ) (js : Set) (c : ℕ) → over n js (λ _. c) ≡ c * count n js
unfolding over count
over_all zero js c = sym (mul-zero c)
over_all (suc n) js c =
    let before = over_all n js c in
    let spread = mul-add c (cond (js n) 1 0) (count n js) in
    grind (arith, nat_tests)

pub over_const : (n : ℕ) (js : Set) (w : ℕ → ℕ) (c : ℕ) → ((k : ℕ) → k < n → js k ≡ true → w k ≡ c) → over n js w ≡ c * count n js
over_const n js w c h = over_same n js w (λ _. c) h ∙ over_all n js c

pub over_const_le : (n : ℕ) (js : Set) (w : ℕ → ℕ) (c : ℕ) → ((k : ℕ) → k < n → js k ≡ true → w k ≤ c) → over n js w ≤ c * count n js
over_const_le n js w c h = omega (arith, over_le n js w (λ _. c) h, over_all n js c)

-- the sum of a test is a count
pub over_count : (n : ℕ) (js t : Set) → over n js (λ k. cond (t k) 1 0) ≡ count n (both js t)
unfolding over count
over_count zero js t = refl
over_count (suc n) js t =
    let before = over_count n js t in
    grind (arith, nat_tests)

-- double counting: of items that lie each at a number, how many lie at each number of a set, summed up, is how many lie in the set
at_one : (n : ℕ) (js : Set) (c : Bool) (a : ℕ) → (c ≡ true → a < n) → over n js (λ j. cond (c && eqb a j) 1 0) ≡ cond (c && js a) 1 0
at_one n js c a h =
    over_count n js (λ j. c && eqb a j)
    ∙ ⊎_elim
    (λ e. let p = and_parts c (js a) e in count_same n _ (λ k. eqb k a) (λ k b. grind (arith, nat_tests)) ∙ (count_one n a (h p.0) ∙ sym (cond-true _ _ _ e)))
    (λ e. count_none n _ (λ k b. grind (arith, nat_tests)) ∙ sym (cond-false _ _ _ e))
    (cases_Bool (c && js a))

pub over_items : (n m : ℕ) (js g : Set) (at : ℕ → ℕ) → ((b : ℕ) → b < m → g b ≡ true → at b < n) → over n js (λ j. count m (λ b. g b && eqb (at b) j)) ≡ count m (λ b. g b && js (at b))
unfolding count
over_items n zero js g at h = over_const n js (λ _. 0) 0 (λ _ _ _. refl) ∙ zero-mul (count n js)
over_items n (suc m) js g at h =
    omega (
      arith,
      over_plus n js (λ j. cond (g m && eqb (at m) j) 1 0) (λ j. count m (λ b. g b && eqb (at b) j)),
      at_one n js (g m) (at m) (h m (omega arith)),
      over_items n m js g at (λ b l. h b (omega arith)),
    )

-- the laws that are stated, all in one
pub counting : Counting
counting =
    record {
      order = count_le;
      join = count_either_both;
      one_more = count_also;
      one_less = count_less;
      double = over_items;
    }
