-- Sheets are right: group by group, the bars of a free part among a group are counted as if they were alone.
use Rattle.std.proofs.Common.{◌≡◌, ℕ, zero, suc, true, sym, refl, ap, ◌∙◌, inl, inr, arith}
use Rattle.std.proofs.lemmas.Bool.{cases_lt}
use Rattle.std.proofs.lemmas.Bool.Decides.{nat_tests}
use Rattle.sets.specs.Sets.{Set, either, count, over}
use Rattle.sets.proofs.Counts.{count_le, count_either_le}
use Rattle.frame.specs.Frame.{Frame, size, among, Free, Part}
use Rattle.frame.proofs.Among.{among_parts, among_from}
use Rattle.certificate.specs.Laws.{SheetsRight}
use Rattle.certificate.specs.Sheets.{Sheet, Covered, Covers, AtMost}

-- without its last group, whose bars are counted alone instead, a sheet still counts a bar
still_covered :
    (f : Frame) (xs : Set) (c : ℕ) (group : ℕ → Set) (alone : Set) (k : ℕ) →
    Covered f xs (record { groups = suc c; group = group; alone = alone }) k →
    Covered f xs (record { groups = c; group = group; alone = either alone (among f (group c) xs) }) k
still_covered f xs c group alone k (inl a) = inl (rw a refl)
still_covered f xs c group alone k (inr (g, b, a)) =
    elim (cases_lt g c) [
      | inl l ↦ inr (g, l, a)
      | inr l ↦ inl (let e : g ≡ c = omega arith in let h : among f (group c) xs k ≡ true = sym (ap (λ i. among f (group i) xs k) e) ∙ a in grind (arith, nat_tests))
    ]

-- where each bar of a free set itself is counted, the sheet bounds it
self_bounded :
    (f : Frame) (xs : Set) (c : ℕ) (group : ℕ → Set) (alone : Set) → Free f xs →
    Covers f xs (record { groups = c; group = group; alone = alone }) → AtMost f (count (size f) xs) (record { groups = c; group = group; alone = alone })
unfolding Free over
self_bounded f xs zero group alone free covers =
    omega (arith, count_le (size f) xs alone (λ k b e. elim (covers.counted k b e) [ inl a ↦ a | inr a ↦ absurd (omega (arith, a.1)) ]))
self_bounded f xs (suc c) group alone free covers =
    let fewer = self_bounded f xs c group (either alone (among f (group c) xs)) free (record { two = λ g b. covers.two g (omega arith); counted = λ k b e. still_covered f xs c group alone k (covers.counted k b e) }) in
    omega (arith, fewer, free (group c) (covers.two c (omega arith)), count_either_le (size f) alone (among f (group c) xs))

-- a sheet for a set is one for its parts
covers_part : (f : Frame) (bs xs : Set) (s : Sheet) → Covers f bs s → Part f xs bs → Covers f xs s
unfolding Part
covers_part f bs xs s covers part = record { two = covers.two; counted = λ k b e. again k e (covers.counted k b (part k b e)) }
  where
    again : (k : ℕ) → xs k ≡ true → Covered f bs s k → Covered f xs s k
    again k e (inl a) = inl a
    again k e (inr (g, b, a)) = let p = among_parts f (s.group g) bs k a in inr (g, b, among_from f (s.group g) xs k e p.1 p.2)

pub sheets_right : SheetsRight
sheets_right f bs xs s covers part free = self_bounded f xs s.groups s.group s.alone free (covers_part f bs xs s covers part)
