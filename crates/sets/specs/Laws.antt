-- Laws of counts, as one statement that the contract of a function names. Assumes nothing: these are statements.
use Rattle.std.specs.Prelude.{◌≡◌, ℕ, ◌+◌, ◌<◌, ◌≤◌, true, false, ◌&&◌, ◌==◌}
use Rattle.sets.specs.Sets.{Set, also, less, both, either, count, over}

pub record Counting : Type 0 where
  -- a part of a set has no more numbers
  pub order : (n : ℕ) (s t : Set) → ((k : ℕ) → k < n → s k ≡ true → t k ≡ true) → count n s ≤ count n t
  -- of two sets, the numbers of the union and those of the intersection are together the numbers of each
  pub join : (n : ℕ) (s t : Set) → count n (either s t) + count n (both s t) ≡ count n s + count n t
  -- one number more, and one less
  pub one_more : (n : ℕ) (s : Set) (i : ℕ) → i < n → s i ≡ false → count n (also s i) ≡ count n s + 1
  pub one_less : (n : ℕ) (s : Set) (i : ℕ) → i < n → s i ≡ true → count n (less s i) + 1 ≡ count n s
  -- double counting: items, each given to one joint, summed over the joints of a set, are the items that are given to the set
  pub double :
      (n m : ℕ) (js items : Set) (at : ℕ → ℕ) → ((b : ℕ) → b < m → items b ≡ true → at b < n) →
      over n js (λ j. count m (λ b. items b && at b == j)) ≡ count m (λ b. items b && js (at b))
