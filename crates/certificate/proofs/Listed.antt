-- Lent lists, row by row: a row with no crowded joint keeps its rules.
use Rattle.std.proofs.Common.{◌≡◌, ℕ, zero, suc, ◌<◌, true, ◌⊎◌, List, Some, None, Option, sym, ap, refl, ◌∙◌, inl, inr, arith}
use Rattle.std.proofs.lemmas.Bool.{ltb-true, ltb-false}
use Rattle.sets.specs.Sets.{Set, first}
use Rattle.sets.proofs.First.{none_first, some_first}
use Rattle.frame.specs.Frame.{Bar, Frame, size}
use Rattle.certificate.specs.Lists.{width, row_of, crowded, Row, ShownFree, end_of, row_in, list_in}

-- what is found in a row that is read from a list is what is found in the list there
pub first_in_row :
    (f : Frame) (bs : Set) (list row : List ℕ) (k : ℕ) (found : Option ℕ) → row ≡ row_of (width f) list k →
    found ≡ first f.joints (crowded f bs k (row_in f k row)) → first f.joints (crowded f bs k (list_in f list k)) ≡ found
first_in_row f bs list row k found is h = sym (h ∙ ap (λ xs. first f.joints (crowded f bs k (row_in f k xs))) is)

-- a number names one of the two ends of a bar
an_end : (b : Bar) (n : ℕ) → (end_of b n ≡ b.one) ⊎ (end_of b n ≡ b.two)
an_end b zero = inl refl
an_end b (suc n) = inr refl

pub row_kept : (f : Frame) (bs : Set) (own : ℕ) (row : List ℕ) → first f.joints (crowded f bs own (row_in f own row)) ≡ None → Row f bs own (row_in f own row)
row_kept f bs own row e = record { ends = λ i l b. an_end _ _; two_each = λ j l. ltb-false _ _ (none_first f.joints (crowded f bs own (row_in f own row)) e j l) }

-- a list none of whose rows has a crowded joint shows that the set is free, and one with such a row does not
pub shown : (f : Frame) (bs : Set) (list : List ℕ) → ((k : ℕ) → k < size f → bs k ≡ true → first f.joints (crowded f bs k (list_in f list k)) ≡ None) → ShownFree f bs (list_in f list)
unfolding ShownFree
shown f bs list h k l b = row_kept f bs k _ (h k l b)

pub not_shown : (f : Frame) (bs : Set) (at : ℕ → ℕ → ℕ) (k j : ℕ) → k < size f → bs k ≡ true → first f.joints (crowded f bs k (at k)) ≡ Some j → ShownFree f bs at → ⊥
unfolding ShownFree
not_shown f bs at k j l b e s =
    let c = some_first f.joints (crowded f bs k (at k)) j e in
    omega (arith, ltb-true _ _ c.1, (s k l b).two_each j c.0)
