-- Sets of numbers, used for joints and for bars, and how many numbers a set has. Assumes nothing: these are definitions.
use Rattle.std.specs.Prelude.{◌≡◌, ℕ, zero, suc, ◌+◌, Bool, true, false, cond, not, ◌&&◌, ◌||◌, None, Option, ◌==◌, nat_lt}
use Rattle.std.specs.Option.{option_or}
use Rattle.std.specs.Bool.{then_some}

-- a set of joints or of bars: of each number, whether it is in the set
abbrev pub Set : Type 0
Set = ℕ → Bool

-- the empty set
abbrev pub none : Set
none k = false

-- every number
abbrev pub all : Set
all k = true

-- all numbers below n
abbrev pub below : ℕ → Set
below n k = nat_lt k n

-- a set with one number more
abbrev pub also : Set → ℕ → Set
also s i k = s k || k == i

-- a set with one number less
abbrev pub less : Set → ℕ → Set
less s i k = s k && not (k == i)

-- what is in both sets: the intersection
abbrev pub both : Set → Set → Set
both s t k = s k && t k

-- what is in one of the two sets at least: the union
abbrev pub either : Set → Set → Set
either s t k = s k || t k

-- each number of the first set is in the second
abbrev pub Within : Set → Set → Type 0
Within s t = (k : ℕ) → s k ≡ true → t k ≡ true

-- how many numbers below n are in the set
unfoldable pub count : ℕ → Set → ℕ
count zero s = 0
count (suc n) s = cond (s n) 1 0 + count n s

-- the sum of weights over the numbers below n that are in the set
unfoldable pub over : ℕ → Set → (weight : ℕ → ℕ) → ℕ
over zero s w = 0
over (suc n) s w = cond (s n) (w n) 0 + over n s w

-- the first number below n that is in the set, if there is one
unfoldable pub first : ℕ → Set → Option ℕ
first zero s = None
first (suc n) s = option_or (first n s) (then_some (s n) n)
