-- Numbers that are cut into rows of one width, from the front: the row that is cut off next, and that all are cut off in the end.
use Rattle.std.proofs.Common.{◌≡◌, ℕ, ◌+◌, ◌*◌, ◌/◌, ◌<◌, ◌≤◌, List, ◌++◌, length, take, drop, length-append, length-drop, sym, ap, ◌∙◌, inl, inr, arith}
use Rattle.std.proofs.Math.Nat.{le-div_iff_mul-le}
use Rattle.std.proofs.Math.Seq.{take-append_seam, drop-append_seam}
use Rattle.std.proofs.lemmas.List.{drop-drop}
use Rattle.std.proofs.lemmas.Bool.{cases_lt}
use Rattle.certificate.specs.Lists.{row_of}

-- what is left once g rows of width w are cut off
pub record Cut (w g : ℕ) (xs rest : List ℕ) : Type 0 where
  pub left : rest ≡ drop (g * w) xs
  pub within : g * w ≤ length xs

pub cut_none : (w : ℕ) (xs : List ℕ) → Cut w 0 xs xs
cut_none w xs =
    let none : 0 * w ≡ 0 = omega arith in
    record { left = ap (λ n. drop n xs) (sym none); within = omega arith }

-- the row that is cut off next, and what is left then
pub record Next (w g : ℕ) (xs row after : List ℕ) : Type 0 where
  pub row_is : row ≡ row_of w xs g
  pub more : Cut w (g + 1) xs after
  pub inside : 0 < w → g < length xs / w

pub cut_next : {w g : ℕ} {xs rest row after : List ℕ} → Cut w g xs rest → rest ≡ row ++ after → length row ≡ w → Next w g xs row after
cut_next {w} {g} {xs} {rest} {row} {after} c e long =
    let next : g * w + w ≡ (g + 1) * w = omega arith in
    let within : (g + 1) * w ≤ length xs = omega (arith, next, c.within, long, ap length c.left, length-drop (g * w) xs, ap length e, length-append row after) in
    record {
      row_is = sym (ap (take w) (sym c.left ∙ e) ∙ ap (λ n. take n (row ++ after)) (sym long) ∙ take-append_seam row after);
      more =
          record {
            left = sym (drop-append_seam row after) ∙ ap (λ n. drop n (row ++ after)) long ∙ ap (drop w) (sym e ∙ c.left) ∙ drop-drop w (g * w) xs ∙ ap (λ n. drop n xs) next;
            within = within;
          };
      inside = λ pos. omega (arith, (le-div_iff_mul-le {k = w} {x = g + 1} {y = length xs} pos).1 within);
    }

pub cut_all : {w g : ℕ} {xs rest : List ℕ} → 0 < w → Cut w g xs rest → length rest < w → g ≡ length xs / w
cut_all {w} {g} {xs} {rest} pos c few =
    let most : g ≤ length xs / w = (le-div_iff_mul-le {k = w} {x = g} {y = length xs} pos).1 c.within in
    elim (cases_lt g (length xs / w)) [
      | inl less ↦
          let more : (g + 1) * w ≤ length xs = (le-div_iff_mul-le {k = w} {x = g + 1} {y = length xs} pos).0 (omega arith) in
          let next : g * w + w ≡ (g + 1) * w = omega arith in
          absurd (omega (arith, more, next, ap length c.left, length-drop (g * w) xs))
      | inr same ↦ omega arith
    ]
