-- Laws of lent numbers as a frame: its bars, and that it is sound where no row applies.
use Rattle.std.proofs.Common.{◌≡◌, ℕ, ◌+◌, ◌*◌, ◌/◌, ◌%◌, ◌<◌, Bool, true, false, ◌&&◌, eqb, ltb, zero, suc, List, length, get_or, drop, ap, sym, ◌∙◌, Some, None, Option, refl, arith}
use Rattle.std.proofs.lemmas.List.FromFn.{length-map-range_with_len, get_or-map-range_with_len}
use Rattle.std.proofs.lemmas.Bool.{eqb-false, leb-false, ltb-false, or_parts}
use Rattle.std.proofs.lemmas.List.{get_or-take, get_or-drop}
use Rattle.std.specs.Simd.{first_chunks}
use Rattle.std.specs.Option.{option_map}
use Rattle.std.specs.Bool.{then_some}
use Rattle.sets.specs.Sets.{Set}
use Rattle.frame.specs.Frame.{no_bar, Allowed, among}
use Rattle.frame.specs.Lent.{bars_in, frame_in}
use Rattle.frame.specs.Refusals.{joints_row, numbers_row, ends_row, apart_row, past, equal_ends}
use Rattle.sets.proofs.First.{none_first}
use Rattle.frame.proofs.Among.{among_is}

-- half as many bars as numbers
pub size_in : (xs : List ℕ) → length (bars_in xs) ≡ length xs / 2
unfolding bars_in
size_in xs = length-map-range_with_len _ 0 (length xs / 2)

-- bar k has the numbers at 2k and 2k + 1
pub bar_in : (xs : List ℕ) (k : ℕ) → k < length xs / 2 → get_or (bars_in xs) k no_bar ≡ record { one = get_or xs (2 * k) 0; two = get_or xs (2 * k + 1) 0 }
unfolding bars_in
bar_in xs k lt = get_or-map-range_with_len (λ k. record { one = get_or xs (2 * k) 0; two = get_or xs (2 * k + 1) 0 }) 0 (length xs / 2) k k no_bar lt (omega arith)

-- cut into pairs, numbers stand in pair k as at 2k and 2k + 1
pub pair_in :
    (n : ℕ) (xs : List ℕ) (k : ℕ) (d : List ℕ) → k < n →
    (get_or (get_or (first_chunks 2 n xs) k d) 0 0 ≡ get_or xs (2 * k) 0) × (get_or (get_or (first_chunks 2 n xs) k d) 1 0 ≡ get_or xs (2 * k + 1) 0)
pair_in zero xs k d lt = absurd (omega arith)
pair_in (suc n) xs zero d lt = (get_or-take 2 xs 0 0 (omega arith), get_or-take 2 xs 1 0 (omega arith))
pair_in (suc n) xs (suc k) d lt =
    let rest = pair_in n (drop 2 xs) k d (omega arith) in
    let first : 2 + 2 * k ≡ 2 * suc k = omega arith in
    let second : 2 + (2 * k + 1) ≡ 2 * suc k + 1 = omega arith in
    (rest.0 ∙ get_or-drop 2 xs (2 * k) 0 ∙ ap (λ i. get_or xs i 0) first, rest.1 ∙ get_or-drop 2 xs (2 * k + 1) 0 ∙ ap (λ i. get_or xs i 0) second)

-- the two ends of bar k are equal, or not, as those of pair k are
pub equal_in : (n : ℕ) (xs : List ℕ) (k : ℕ) (d : List ℕ) (b : Bool) → k < n → eqb (get_or (get_or (first_chunks 2 n xs) k d) 0 0) (get_or (get_or (first_chunks 2 n xs) k d) 1 0) ≡ b → equal_ends xs k ≡ b
equal_in n xs k d b lt e = rw (sym (pair_in n xs k d lt).0, sym (pair_in n xs k d lt).1) e

-- and so bar k is among some joints, or not, as the numbers of pair k are joints of these
pub among_pair :
    (joints : ℕ) (xs : List ℕ) (pairs : List (List ℕ)) (k : ℕ) (d : List ℕ) (js bs : Set) (b : Bool) → pairs ≡ first_chunks 2 (length xs / 2) xs → k < length xs / 2 →
    b ≡ (bs k && (js (get_or (get_or pairs k d) 0 0) && js (get_or (get_or pairs k d) 1 0))) → b ≡ among (frame_in joints xs) js bs k
among_pair joints xs pairs k d js bs b cut lt says =
    let pair = pair_in (length xs / 2) xs k d lt in
    (rw (cut, pair.0, pair.1) at says) ∙ among_is (frame_in joints xs) js bs k (record { one = get_or xs (2 * k) 0; two = get_or xs (2 * k + 1) 0 }) (bs k) (sym (bar_in xs k lt)) refl

-- a test that refuses nothing is false, and a search that finds nothing has found nothing
pub untaken : {X : Type 0} (t : Bool) (x : X) → then_some t x ≡ None → t ≡ false
untaken true x e = let z : ◌≡◌ {A = ℕ} 0 1 = cc in absurd (omega arith)
untaken false x e = refl

-- and a test that has a value is true, and the value is that
pub taken : {X : Type 0} (t : Bool) (x y : X) → then_some t x ≡ Some y → (t ≡ true) × (x ≡ y)
taken true x y e = (refl, cc)
taken false x y e = let z : ◌≡◌ {A = ℕ} 0 1 = cc in absurd (omega arith)

unfound : {X Y : Type 0} (g : X → Y) (o : Option X) → option_map g o ≡ None → o ≡ None
unfound g None e = refl
unfound g (Some x) e = let z : ◌≡◌ {A = ℕ} 0 1 = cc in absurd (omega arith)

-- where no row applies the frame is allowed
pub allowed_in :
    (joints : ℕ) (xs : List ℕ) → joints_row joints ≡ None → numbers_row xs ≡ None → ends_row joints xs ≡ None → apart_row xs ≡ None →
    Allowed (frame_in joints xs)
allowed_in joints xs r₁ r₂ r₃ r₄ =
    record {
      sound = record { inside = inside; apart = apart };
      least_joints = ltb-false joints 2 limits.0;
      most_joints = ltb-false 512 joints limits.1;
      most_bars = omega (arith, size_in xs, ltb-false 2048 (length xs / 2) numbers.1);
    }
  where
    limits : (ltb joints 2 ≡ false) × (ltb 512 joints ≡ false)
    limits = or_parts (ltb joints 2) (ltb 512 joints) (untaken _ _ r₁)

    numbers : (eqb (length xs % 2) 1 ≡ false) × (ltb 2048 (length xs / 2) ≡ false)
    numbers = or_parts (eqb (length xs % 2) 1) (ltb 2048 (length xs / 2)) (untaken _ _ r₂)

    end : (k : ℕ) → k < length xs → get_or xs k 0 < joints
    end k lt = leb-false _ _ (none_first (length xs) (past joints xs) (unfound _ _ r₃) k lt)

    inside : (k : ℕ) → k < length (bars_in xs) → ((get_or (bars_in xs) k no_bar).one < joints) × ((get_or (bars_in xs) k no_bar).two < joints)
    inside k lt =
        let l : k < length xs / 2 = omega (arith, size_in xs) in
        rw (bar_in xs k l) (end (2 * k) (omega arith), end (2 * k + 1) (omega arith))

    apart : (k : ℕ) → k < length (bars_in xs) → (get_or (bars_in xs) k no_bar).one ≡ (get_or (bars_in xs) k no_bar).two → ⊥
    apart k lt e =
        let l : k < length xs / 2 = omega (arith, size_in xs) in
        eqb-false (get_or xs (2 * k) 0) (get_or xs (2 * k + 1) 0) (none_first (length xs / 2) (equal_ends xs) (unfound _ _ r₄) k l) (rw (bar_in xs k l) at e)
