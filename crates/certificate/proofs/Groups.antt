-- Reading a group of joints from its marks, and which bars are among the groups that have been read.
use Rattle.std.proofs.Common.{◌≡◌, ℕ, ◌+◌, ◌<◌, ◌≤◌, Bool, true, false, ◌||◌, List, length, get_or, inl, inr, arith}
use mathlib.Core.Path.{fun_ext}
use Rattle.std.proofs.lemmas.List.{get_or_past}
use Rattle.std.proofs.lemmas.Bool.{cases_lt}
use Rattle.std.proofs.lemmas.Bool.Decides.{nat_tests}
use Rattle.sets.specs.Sets.{Set, all, below, also, both}
use Rattle.frame.specs.Frame.{Frame, among}
use Rattle.frame.specs.Lent.{set_in}

-- the numbers of a set below n, as n grows
pub read_more : (s : Set) (n : ℕ) → s n ≡ true → also (both s (below n)) n ≡ both s (below (n + 1))
read_more s n e = fun_ext (λ k. grind (arith, nat_tests))

pub read_skip : (s : Set) (n : ℕ) → s n ≡ false → both s (below n) ≡ both s (below (n + 1))
read_skip s n e = fun_ext (λ k. grind (arith, nat_tests))

-- marks mean no number past them
pub read_all : (marks : List ℕ) → both (set_in marks) (below (length marks)) ≡ set_in marks
unfolding set_in
read_all marks = fun_ext (λ k. elim (cases_lt k (length marks)) [ inl a ↦ grind (arith, nat_tests) | inr a ↦ (let past = get_or_past marks k 0 a in grind (arith, nat_tests)) ])

-- the marks of the bars that are among a group are joined in up to bar k
pub record Covering (f : Frame) (js : Set) (before marks : List Bool) (k : ℕ) : Type 0 where
  pub done : (i : ℕ) → i < k → get_or marks i false ≡ (get_or before i false || among f js all i)
  pub rest : (i : ℕ) → k ≤ i → get_or marks i false ≡ get_or before i false
