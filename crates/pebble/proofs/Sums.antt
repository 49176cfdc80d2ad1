-- Sums over a set with two numbers that are told apart from the others.
use Rattle.std.proofs.Common.{◌≡◌, ℕ, ◌+◌, ◌<◌, ◌≤◌, true, zero-mul, arith}
use Rattle.std.proofs.lemmas.Bool.Decides.{nat_tests}
use Rattle.sets.specs.Sets.{Set, less, count, over}
use Rattle.sets.proofs.Counts.{over_less, over_const}

-- two different numbers below n, both in a set
pub record TwoOf (n : ℕ) (s : Set) (i j : ℕ) : Type 0 where
  pub i_below : i < n
  pub j_below : j < n
  pub differ : i ≡ j → ⊥
  pub has_i : s i ≡ true
  pub has_j : s j ≡ true

-- two numbers less
over_two : (n : ℕ) (s : Set) (w : ℕ → ℕ) (i j : ℕ) → TwoOf n s i j → over n (less (less s i) j) w + (w i + w j) ≡ over n s w
over_two n s w i j p =
    let d = p.differ in
    let y = p.has_j in
    omega (arith, over_less n s w i p.i_below p.has_i, over_less n (less s i) w j p.j_below (grind (arith, nat_tests)))

-- the weights of two numbers of a set are at most the sum, and are the sum if the others weigh nothing
pub over_two_le : (n : ℕ) (s : Set) (w : ℕ → ℕ) (i j : ℕ) → TwoOf n s i j → w i + w j ≤ over n s w
over_two_le n s w i j p = omega (arith, over_two n s w i j p)

pub over_two_only :
    (n : ℕ) (s : Set) (w : ℕ → ℕ) (i j : ℕ) → TwoOf n s i j →
    ((k : ℕ) → k < n → s k ≡ true → (k ≡ i → ⊥) → (k ≡ j → ⊥) → w k ≡ 0) → over n s w ≡ w i + w j
over_two_only n s w i j p h =
    omega (arith, over_two n s w i j p, over_const n (less (less s i) j) w 0 rest, zero-mul (count n (less (less s i) j)))
  where
    rest : (k : ℕ) → k < n → less (less s i) j k ≡ true → w k ≡ 0
    rest k b e = h k b (grind (arith, nat_tests)) (grind (arith, nat_tests)) (grind (arith, nat_tests))

-- and only if: where they are the sum, each other number weighs nothing
pub over_two_rest :
    (n : ℕ) (s : Set) (w : ℕ → ℕ) (i j : ℕ) → TwoOf n s i j → over n s w ≤ w i + w j →
    (k : ℕ) → k < n → s k ≡ true → (k ≡ i → ⊥) → (k ≡ j → ⊥) → w k ≡ 0
over_two_rest n s w i j p most k b e c d = omega (arith, over_less n s w k b e, over_two_le n (less s k) w i j left)
  where
    still : (l : ℕ) → s l ≡ true → (k ≡ l → ⊥) → less s k l ≡ true
    still l h o = grind (arith, nat_tests)

    left : TwoOf n (less s k) i j
    left = record { i_below = p.i_below; j_below = p.j_below; differ = p.differ; has_i = still i p.has_i c; has_j = still j p.has_j d }
