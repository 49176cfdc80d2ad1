-- Laws of the bits of a word, and of sets that lie in words.
use Rattle.std.proofs.Common.{◌≡◌, ℕ, zero, suc, ◌+◌, ◌-◌, ◌*◌, ◌/◌, ◌%◌, ◌^◌, ◌<◌, ◌≤◌, min, Bool, true, false, cond, not, ◌&&◌, ◌||◌, eqb, ltb, ◌⊎◌, List, length, get_or, set, replicate, Some, None, sym, refl, ap, ◌∙◌, subst, inl, inr, mod-eq_of_lt, pow-suc, div-one, one-add, arith}
use mathlib.Core.Path.{fun_ext}
use native.Mathlib.Nat.{zero-div, mod-one}
use lib.Dec.{eqb-suc-zero, eqb-zero-suc, eqb-suc-suc, leb-suc-suc}
use lib.Bits.{bit_and, bit_or, bit_xor, and_shr, and_mod, or_shr, or_mod, xor_shr, xor_mod, xor_add_and, or_lt}
use lib.Count.{ones, ones-le, ones_in, count_trailing_zeros, under, ones_cat}
use Rattle.std.proofs.lemmas.Nat.{mod_below, and_mask, and_comm, shr-shr, pow_pos, pow_below, one_shl, mod-pow-add}
use Rattle.std.proofs.lemmas.List.{get_or_past, get_or-set_same, get_or-set_other}
use Rattle.std.proofs.lemmas.Bool.{cases_eq, cases_lt, ne_eqb, eq-eqb, lt-ltb, le-ltb, or_left, both_ways}
use Rattle.std.proofs.lemmas.Bool.Decides.{nat_tests}
use Rattle.sets.proofs.Counts.{count_same, count_plus}
use Rattle.sets.proofs.First.{first_some, first_none}
use Rattle.sets.specs.Sets.{none, below, also, less, Within, count, first}
use Rattle.sets.specs.Words.{bits, bits_of}

-- a digit is 0 or 1
digit : (x : ℕ) → x < 2 → (x ≡ 0) ⊎ (x ≡ 1)
digit zero h = inl refl
digit (suc zero) h = inr refl
digit (suc (suc x)) h = absurd (omega arith)

-- an operation that works digit by digit, on each bit; its table is four computed lines
pub bits_op :
    (f : ℕ → ℕ → ℕ) (g : Bool → Bool → Bool) → ((a b k : ℕ) → f a b / 2 ^ k ≡ f (a / 2 ^ k) (b / 2 ^ k)) → ((a b k : ℕ) → f a b % 2 ^ k ≡ f (a % 2 ^ k) (b % 2 ^ k)) →
    eqb (f 0 0) 1 ≡ g false false → eqb (f 0 1) 1 ≡ g false true → eqb (f 1 0) 1 ≡ g true false → eqb (f 1 1) 1 ≡ g true true →
    (a b i : ℕ) → bits (f a b) i ≡ g (bits a i) (bits b i)
unfolding bits
bits_op f g shr low t00 t01 t10 t11 a b i =
    rw (shr a b i) (ap (λ x. eqb x 1) (low (a / 2 ^ i) (b / 2 ^ i) 1) ∙ table (a / 2 ^ i % 2) (b / 2 ^ i % 2) (mod_below _ 2 (omega arith)) (mod_below _ 2 (omega arith)))
  where
    table : (x y : ℕ) → x < 2 → y < 2 → eqb (f x y) 1 ≡ g (eqb x 1) (eqb y 1)
    table x y p q =
        elim (digit x p) [
          | inl e ↦ elim (digit y q) [ inl d ↦ rw (e, d) t00 | inr d ↦ rw (e, d) t01 ]
          | inr e ↦ elim (digit y q) [ inl d ↦ rw (e, d) t10 | inr d ↦ rw (e, d) t11 ]
        ]

pub bits_or : (a b i : ℕ) → bits (bit_or a b) i ≡ (bits a i || bits b i)
bits_or = bits_op bit_or ◌||◌ or_shr or_mod refl refl refl refl

pub bits_and : (a b i : ℕ) → bits (bit_and a b) i ≡ (bits a i && bits b i)
bits_and = bits_op bit_and ◌&&◌ and_shr and_mod refl refl refl refl

pub bits_xor : (a b i : ℕ) → bits (bit_xor a b) i ≡ cond (bits a i) (not (bits b i)) (bits b i)
bits_xor = bits_op bit_xor (λ x y. cond x (not y) y) xor_shr xor_mod refl refl refl refl

-- no bit of 0 is 1
pub bits_zero : (i : ℕ) → bits 0 i ≡ false
unfolding bits
bits_zero i = rw zero-div

-- the bits of a word, from the second on, are those of its half
bits_suc : (w i : ℕ) → bits w (suc i) ≡ bits (w / 2) i
unfolding bits
bits_suc w i = ap (λ x. eqb (x % 2) 1) (ap (λ m. w / 2 ^ m) (sym (one-add i)) ∙ sym (shr-shr w 1 i))

-- the lowest bit
bits_low : (w : ℕ) → bits w 0 ≡ eqb (w % 2) 1
unfolding bits
bits_low w = ap (λ x. eqb (x % 2) 1) (div-one w)

double : (n : ℕ) → 2 ^ suc n ≡ 2 ^ n * 2
double n = pow-suc 2 n

-- only the bit i of 2 ^ i is 1
pub bits_one : (i k : ℕ) → bits (2 ^ i) k ≡ eqb k i
bits_one zero zero = bits_low 1
bits_one zero (suc k) = bits_suc 1 k ∙ bits_zero k ∙ sym (eqb-suc-zero k)
bits_one (suc i) zero = bits_low (2 ^ suc i) ∙ ne_eqb _ 1 (λ e. omega (arith, double i)) ∙ sym (eqb-zero-suc i)
bits_one (suc i) (suc k) =
    let half : 2 ^ suc i / 2 ≡ 2 ^ i = omega (arith, double i) in
    bits_suc (2 ^ suc i) k ∙ ap (λ w. bits w k) half ∙ bits_one i k ∙ sym (eqb-suc-suc k i)

-- the lowest n bits of 2 ^ n - 1 are 1
pub bits_ones : (n i : ℕ) → bits (2 ^ n - 1) i ≡ ltb i n
bits_ones zero i = bits_zero i ∙ sym (le-ltb i 0 (omega arith))
bits_ones (suc n) zero = bits_low (2 ^ suc n - 1) ∙ eq-eqb _ 1 (omega (arith, double n, pow_pos n)) ∙ sym (lt-ltb 0 (suc n) (omega arith))
bits_ones (suc n) (suc i) =
    let half : (2 ^ suc n - 1) / 2 ≡ 2 ^ n - 1 = omega (arith, double n, pow_pos n) in
    bits_suc (2 ^ suc n - 1) i ∙ ap (λ w. bits w i) half ∙ bits_ones n i ∙ sym (leb-suc-suc (suc i) n)

-- the bits of a word's complement
pub bits_not : (n w i : ℕ) → w < 2 ^ n → i < n → bits ((2 ^ n - 1) - w) i ≡ not (bits w i)
bits_not n w i small lt =
    let mask : bit_and (2 ^ n - 1) w ≡ w = and_comm (2 ^ n - 1) w ∙ and_mask w n ∙ mod-eq_of_lt small in
    let less : bit_xor (2 ^ n - 1) w ≡ (2 ^ n - 1) - w = omega (arith, xor_add_and (2 ^ n - 1) w, mask) in
    ap (λ x. bits x i) (sym less) ∙ bits_xor (2 ^ n - 1) w i ∙ rw (bits_ones n i, lt-ltb i n lt)

-- two words with the same bits are equal
pub bits_same : (n a b : ℕ) → a < 2 ^ n → b < 2 ^ n → ((i : ℕ) → i < n → bits a i ≡ bits b i) → a ≡ b
bits_same zero a b la lb h = omega arith
bits_same (suc n) a b la lb h =
    let halves : a / 2 ≡ b / 2 = bits_same n (a / 2) (b / 2) (omega (arith, double n)) (omega (arith, double n)) (λ i l. sym (bits_suc a i) ∙ h (suc i) (omega arith) ∙ bits_suc b i) in
    let lows : eqb (a % 2) 1 ≡ eqb (b % 2) 1 = sym (bits_low a) ∙ h 0 (omega arith) ∙ bits_low b in
    grind (arith, nat_tests)

one_digit : (x : ℕ) → x < 2 → cond (eqb x 1) 1 0 ≡ ones x
unfolding ones ones_in
one_digit x h = elim (digit x h) [ inl e ↦ rw e refl | inr e ↦ rw e refl ]

-- the number of bits that are 1
pub bits_count : (n w : ℕ) → count n (bits w) ≡ ones (w % 2 ^ n)
unfolding count bits
bits_count zero w = one_digit 0 (omega arith) ∙ sym (ap ones (mod-one w))
bits_count (suc n) w =
    let top : w % 2 ^ suc n ≡ (w / 2 ^ n % 2) * 2 ^ n + w % 2 ^ n = ap (λ m. w % 2 ^ m) (sym (one-add n)) ∙ mod-pow-add w 1 n in
    let low : w % 2 ^ n < 2 ^ n = mod_below w (2 ^ n) (pow_pos n) in
    let all : ones (w % 2 ^ suc n) ≡ ones (w / 2 ^ n % 2) + ones (w % 2 ^ n) = ap ones top ∙ ones_cat n (w / 2 ^ n % 2) (w % 2 ^ n) low in
    omega (arith, bits_count n w, all, one_digit (w / 2 ^ n % 2) (mod_below _ 2 (omega arith)))

-- the lowest bit that is 1
pub bits_trailing : (n w : ℕ) → 0 < w → w < 2 ^ n → (count_trailing_zeros n w < n) × (bits w (count_trailing_zeros n w) ≡ true) × ((i : ℕ) → i < count_trailing_zeros n w → bits w i ≡ false)
unfolding count_trailing_zeros
bits_trailing zero w pos small = absurd (omega arith)
bits_trailing (suc n) w pos small =
    elim (digit (w % 2) (omega arith)) [
      | inl e ↦ even (count_trailing_zeros n (w / 2)) e (bits_trailing n (w / 2) (omega arith) (omega (arith, double n)))
      | inr e ↦ odd (count_trailing_zeros n (w / 2)) e
    ]
  where
    Lowest : ℕ → Type 0
    Lowest t = (t < suc n) × (bits w t ≡ true) × ((i : ℕ) → i < t → bits w i ≡ false)

    odd : (t : ℕ) → w % 2 ≡ 1 → Lowest (under (w % 2) t)
    odd t e = rw e (omega arith, bits_low w ∙ eq-eqb _ 1 e, λ i l. absurd (omega arith))

    zeros : (t : ℕ) → w % 2 ≡ 0 → ((i : ℕ) → i < t → bits (w / 2) i ≡ false) → (i : ℕ) → i < suc t → bits w i ≡ false
    zeros t e h zero l = bits_low w ∙ ne_eqb _ 1 (λ d. omega arith)
    zeros t e h (suc i) l = bits_suc w i ∙ h i (omega arith)

    even : (t : ℕ) → w % 2 ≡ 0 → (t < n) × (bits (w / 2) t ≡ true) × ((i : ℕ) → i < t → bits (w / 2) i ≡ false) → Lowest (under (w % 2) t)
    even t e h = rw e (omega arith, bits_suc w t ∙ h.1, zeros t e h.2)

-- one bit of a word: what `>>` and `& 1` read
pub bits_read : (w i : ℕ) → eqb (bit_and (w / 2 ^ i) 1) 1 ≡ bits w i
unfolding bits
bits_read w i = ap (λ x. eqb x 1) (and_mask (w / 2 ^ i) 1)

-- no number is in words that are 0
pub of_zeros : (n : ℕ) → bits_of (replicate n 0) ≡ none
unfolding bits_of
of_zeros n = fun_ext (λ j. rw (zero_at n (j / 64)) (bits_zero (j % 64)))
  where
    zero_at : (m i : ℕ) → ◌≡◌ {A = ℕ} (get_or (replicate m 0) i 0) 0
    zero_at zero i = refl
    zero_at (suc m) zero = refl
    zero_at (suc m) (suc i) = zero_at m i

-- an operation done on each word is an operation on each number
pub of_each :
    (f : ℕ → ℕ → ℕ) (g : Bool → Bool → Bool) → ((a b i : ℕ) → bits (f a b) i ≡ g (bits a i) (bits b i)) → f 0 0 ≡ 0 → (xs ys ws : List ℕ) (n : ℕ) →
    length xs ≤ n → length ys ≤ n → length ws ≤ n → ((k : ℕ) → k < n → get_or ws k 0 ≡ f (get_or xs k 0) (get_or ys k 0)) → bits_of ws ≡ (λ j. g (bits_of xs j) (bits_of ys j))
unfolding bits_of
of_each f g each none_too xs ys ws n few few' few'' h = fun_ext (λ j. rw (word (j / 64)) (each (get_or xs (j / 64) 0) (get_or ys (j / 64) 0) (j % 64)))
  where
    word : (k : ℕ) → get_or ws k 0 ≡ f (get_or xs k 0) (get_or ys k 0)
    word k =
        elim (cases_lt k n) [
          | inl l ↦ h k l
          | inr g ↦
              let x : get_or xs k 0 ≡ 0 = get_or_past xs k 0 (omega arith) in
              let y : get_or ys k 0 ≡ 0 = get_or_past ys k 0 (omega arith) in
              get_or_past ws k 0 (omega arith) ∙ rw (x, y) (sym none_too)
        ]

-- past the last word there is nothing
pub of_past : (ws : List ℕ) (j : ℕ) → length ws ≤ j / 64 → bits_of ws j ≡ false
unfolding bits_of
of_past ws j h = rw (get_or_past ws (j / 64) 0 h) (bits_zero (j % 64))

-- a word written so that one of its bits is new, and the others are as they were
of_write :
    (ws : List ℕ) (x v : ℕ) (new : Bool) → x / 64 < length ws → ((i : ℕ) → i < 64 → bits v i ≡ cond (eqb i (x % 64)) new (bits (get_or ws (x / 64) 0) i)) →
    (j : ℕ) → bits_of (set ws (x / 64) v) j ≡ cond (eqb j x) new (bits_of ws j)
unfolding bits_of
of_write ws x v new lt h j =
    elim (cases_eq (j / 64) (x / 64)) [
      | inl e ↦
          let test : eqb (j % 64) (x % 64) ≡ eqb j x = grind (arith, nat_tests) in
          rw e
          (ap (λ w. bits w (j % 64)) (get_or-set_same ws (x / 64) v 0 lt) ∙ h (j % 64) (omega arith) ∙ ap (λ t. cond t new (bits (get_or ws (x / 64) 0) (j % 64))) test)
      | inr ne ↦
          let test : eqb j x ≡ false = ne_eqb j x (λ e. ne (ap (λ k. k / 64) e)) in
          rw (test, get_or-set_other ws (x / 64) (j / 64) v 0 ne) refl
    ]

-- what `1 << i` is at a word
one_at : (x : ℕ) → (1 * 2 ^ (x % 64)) % 2 ^ 64 ≡ 2 ^ (x % 64)
one_at x = one_shl (x % 64) 64 (omega arith)

-- one number more
pub of_insert : (ws : List ℕ) (x : ℕ) → x / 64 < length ws → bits_of (set ws (x / 64) (bit_or (get_or ws (x / 64) 0) ((1 * 2 ^ (x % 64)) % 2 ^ 64))) ≡ also (bits_of ws) x
of_insert ws x lt = fun_ext (λ j. rw (one_at x) (of_write ws x _ true lt put j ∙ either_way (eqb j x) (bits_of ws j)))
  where
    either_way : (t b : Bool) → cond t true b ≡ (b || t)
    either_way t b = grind (arith, nat_tests)

    put : (i : ℕ) → i < 64 → bits (bit_or (get_or ws (x / 64) 0) (2 ^ (x % 64))) i ≡ cond (eqb i (x % 64)) true (bits (get_or ws (x / 64) 0) i)
    put i l =
        let w = get_or ws (x / 64) 0 in
        bits_or w (2 ^ (x % 64)) i ∙ ap (λ t. bits w i || t) (bits_one (x % 64) i) ∙ sym (either_way (eqb i (x % 64)) (bits w i))

-- one number less
pub of_remove : (ws : List ℕ) (x : ℕ) → x / 64 < length ws → bits_of (set ws (x / 64) (bit_and (get_or ws (x / 64) 0) ((2 ^ 64 - 1) - (1 * 2 ^ (x % 64)) % 2 ^ 64))) ≡ less (bits_of ws) x
of_remove ws x lt = fun_ext (λ j. rw (one_at x) (of_write ws x _ false lt cut j ∙ either_way (eqb j x) (bits_of ws j)))
  where
    either_way : (t b : Bool) → cond t false b ≡ (b && not t)
    either_way t b = grind (arith, nat_tests)

    cut : (i : ℕ) → i < 64 → bits (bit_and (get_or ws (x / 64) 0) ((2 ^ 64 - 1) - 2 ^ (x % 64))) i ≡ cond (eqb i (x % 64)) false (bits (get_or ws (x / 64) 0) i)
    cut i l =
        let w = get_or ws (x / 64) 0 in
        let others : bits ((2 ^ 64 - 1) - 2 ^ (x % 64)) i ≡ not (eqb i (x % 64)) =
        bits_not 64 (2 ^ (x % 64)) i (pow_below (x % 64) 64 (omega arith)) l ∙ ap not (bits_one (x % 64) i) in
        bits_and w ((2 ^ 64 - 1) - 2 ^ (x % 64)) i ∙ ap (λ t. bits w i && t) others ∙ sym (either_way (eqb i (x % 64)) (bits w i))

-- words that have the bits of the numbers below n
pub of_below : (n : ℕ) (ws : List ℕ) → length ws ≡ 8 → ((w : ℕ) → w < 8 → (i : ℕ) → i < 64 → bits (get_or ws w 0) i ≡ ltb i (n - 64 * w)) → bits_of ws ≡ below (min n 512)
unfolding bits_of
of_below n ws eight low =
    fun_ext
    (λ j.
    elim (cases_lt (j / 64) 8) [
      | inl l ↦ let e : ltb (j % 64) (n - 64 * (j / 64)) ≡ ltb j (min n 512) = grind (arith, nat_tests) in low (j / 64) (omega arith) (j % 64) (omega arith) ∙ e
      | inr g ↦ of_past ws j (omega arith) ∙ sym (le-ltb j (min n 512) (omega arith))
    ])

-- a part of a set, by words
pub of_within : (xs ys : List ℕ) (n : ℕ) → length xs ≤ n → ((k : ℕ) → k < n → bit_or (get_or xs k 0) (get_or ys k 0) ≡ get_or ys k 0) → Within (bits_of xs) (bits_of ys)
unfolding bits_of
of_within xs ys n few h j t =
    elim (cases_lt (j / 64) n) [
      | inl l ↦
          ap (λ w. bits w (j % 64)) (sym (h (j / 64) l)) ∙ bits_or (get_or xs (j / 64) 0) (get_or ys (j / 64) 0) (j % 64) ∙ or_left _ (bits (get_or ys (j / 64) 0) (j % 64)) t
      | inr g ↦ absurd (both_ways (bits_of xs j) (of_past xs j (omega arith)) t)
    ]

-- the bits of the word k
of_word : (ws : List ℕ) (k i : ℕ) → i < 64 → bits_of ws (64 * k + i) ≡ bits (get_or ws k 0) i
unfolding bits_of
of_word ws k i l =
    let word : (64 * k + i) / 64 ≡ k = omega arith in
    let place : (64 * k + i) % 64 ≡ i = omega arith in
    rw (word, place) refl

pub within_of : (xs ys : List ℕ) (k : ℕ) → get_or xs k 0 < 2 ^ 64 → get_or ys k 0 < 2 ^ 64 → Within (bits_of xs) (bits_of ys) → bit_or (get_or xs k 0) (get_or ys k 0) ≡ get_or ys k 0
within_of xs ys k lx ly h = bits_same 64 _ _ (or_lt 64 (get_or xs k 0) (get_or ys k 0) lx ly) ly (λ i l. bits_or (get_or xs k 0) (get_or ys k 0) i ∙ joined (each i l))
  where
    each : (i : ℕ) → i < 64 → bits (get_or xs k 0) i ≡ true → bits (get_or ys k 0) i ≡ true
    each i l t = sym (of_word ys k i l) ∙ h (64 * k + i) (of_word xs k i l ∙ t)

    joined : {a b : Bool} → (a ≡ true → b ≡ true) → (a || b) ≡ b
    joined {a} {b} e = grind (arith, nat_tests)

-- the first number, by words
pub of_first :
    (ws : List ℕ) (k : ℕ) → k < 8 → get_or ws k 0 < 2 ^ 64 → 0 < get_or ws k 0 → ((i : ℕ) → i < k → get_or ws i 0 ≡ 0) →
    first 512 (bits_of ws) ≡ Some (64 * k + count_trailing_zeros 64 (get_or ws k 0))
unfolding bits_of
of_first ws k lt small pos zeros =
    let t : ℕ = count_trailing_zeros 64 (get_or ws k 0) in
    let lowest : (t < 64) × (bits (get_or ws k 0) t ≡ true) × ((i : ℕ) → i < t → bits (get_or ws k 0) i ≡ false) = bits_trailing 64 (get_or ws k 0) pos small in
    first_some 512 (bits_of ws) (64 * k + t) (omega arith) (of_word ws k t lowest.0 ∙ lowest.1)
    (λ j l.
    elim (cases_lt (j / 64) k) [
      | inl less ↦ ap (λ w. bits w (j % 64)) (zeros (j / 64) less) ∙ bits_zero (j % 64)
      | inr more ↦ let here : j / 64 ≡ k = omega arith in ap (λ m. bits (get_or ws m 0) (j % 64)) here ∙ lowest.2 (j % 64) (omega arith)
    ])

pub of_first_none : (ws : List ℕ) → ((i : ℕ) → i < 8 → get_or ws i 0 ≡ 0) → first 512 (bits_of ws) ≡ None
unfolding bits_of
of_first_none ws zeros = first_none 512 (bits_of ws) (λ j l. ap (λ w. bits w (j % 64)) (zeros (j / 64) (omega arith)) ∙ bits_zero (j % 64))

-- how many numbers there are, one word more
pub of_count : (ws : List ℕ) (k : ℕ) → get_or ws k 0 < 2 ^ 64 → count (64 * (k + 1)) (bits_of ws) ≡ count (64 * k) (bits_of ws) + ones (get_or ws k 0)
of_count ws k small =
    let word : count 64 (λ i. bits_of ws (64 * k + i)) ≡ ones (get_or ws k 0) =
    count_same 64 _ _ (λ i l. of_word ws k i l) ∙ bits_count 64 (get_or ws k 0) ∙ ap ones (mod-eq_of_lt small) in
    let next : 64 * (k + 1) ≡ 64 * k + 64 = omega arith in
    ap (λ n. count n (bits_of ws)) next ∙ count_plus (64 * k) 64 (bits_of ws) ∙ ap (λ n. count (64 * k) (bits_of ws) + n) word

-- the numbers of one word more are counted
pub word_counted :
    (ws : List ℕ) (k n word : ℕ) → word ≡ get_or ws k 0 → word < 2 ^ 64 → (n ≡ count (64 * k) (bits_of ws)) × (n ≤ 64 * k) →
    (n + ones word ≡ count (64 * (k + 1)) (bits_of ws)) × (n + ones word ≤ 64 * (k + 1))
word_counted ws k n word is small sofar =
    (omega (arith, of_count ws k (subst (λ w. w < 2 ^ 64) is small), ap ones is, sofar.0), omega (arith, ones-le 64 word small, sofar.1))
