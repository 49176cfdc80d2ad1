-- Laws of `first`, the first number below a bound that is in a set.
use Rattle.std.proofs.Common.{◌≡◌, ℕ, zero, suc, ◌<◌, true, false, ◌⊎◌, Some, None, sym, refl, ap, ◌∙◌, inl, inr, ⊎_elim, arith}
use Rattle.std.proofs.lemmas.Bool.{cases_Bool, cases_lt}
use Rattle.sets.specs.Sets.{Set, first}

-- no number below n is in the set
pub first_none : (n : ℕ) (s : Set) → ((k : ℕ) → k < n → s k ≡ false) → first n s ≡ None
unfolding first
first_none zero s h = refl
first_none (suc n) s h = rw (first_none n s (λ k lt. h k (omega arith)), h n (omega arith))

-- the number k is in the set, and none before it
pub first_some : (n : ℕ) (s : Set) (k : ℕ) → k < n → s k ≡ true → ((i : ℕ) → i < k → s i ≡ false) → first n s ≡ Some k
unfolding first
first_some zero s k lt h before = absurd (omega arith)
first_some (suc n) s k lt h before =
    ⊎_elim
    (λ less. rw (first_some n s k less h before))
    (λ more. let e : k ≡ n = omega arith in rw (first_none n s (λ i l. before i (omega arith)), ← e, h))
    (cases_lt k n)

-- one of the two holds
pub cases_first : (n : ℕ) (s : Set) → ((k : ℕ) → k < n → s k ≡ false) ⊎ ((k : ℕ) × (k < n) × (s k ≡ true) × ((i : ℕ) → i < k → s i ≡ false))
cases_first zero s = inl (λ k lt. absurd (omega arith))
cases_first (suc n) s =
    elim (cases_first n s) [
      | inl h ↦ elim (cases_Bool (s n)) [ inl t ↦ inr (n, omega arith, t, h) | inr f ↦ inl (below_more n h f) ]
      | inr found ↦ inr (found.0, omega arith, found.2, found.3)
    ]
  where
    below_more : (m : ℕ) → ((k : ℕ) → k < m → s k ≡ false) → s m ≡ false → (k : ℕ) → k < suc m → s k ≡ false
    below_more m h here k lt = elim (cases_lt k m) [ inl l ↦ h k l | inr g ↦ let e : k ≡ m = omega arith in rw e here ]

-- what the answer says: that none is in the set, or that k is and none before it
pub none_first : (n : ℕ) (s : Set) → first n s ≡ None → (k : ℕ) → k < n → s k ≡ false
none_first n s e k lt =
    elim (cases_first n s) [
      | inl h ↦ h k lt
      | inr found ↦ let z : ◌≡◌ {A = ℕ} 0 1 = cc (first_some n s found.0 found.1 found.2 found.3) in absurd (omega arith)
    ]

pub some_first : (n : ℕ) (s : Set) (k : ℕ) → first n s ≡ Some k → (k < n) × (s k ≡ true) × ((i : ℕ) → i < k → s i ≡ false)
some_first n s k e =
    elim (cases_first n s) [
      | inl h ↦ let z : ◌≡◌ {A = ℕ} 0 1 = cc (first_none n s h) in absurd (omega arith)
      | inr found ↦
          let same : found.0 ≡ k = cc (first_some n s found.0 found.1 found.2 found.3) in
          (omega arith, ap s (sym same) ∙ found.2, λ i l. found.3 i (omega arith))
    ]
