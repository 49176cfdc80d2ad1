-- To append bars to a frame changes nothing for sets of the bars that it had.
use Rattle.std.proofs.Common.{◌≡◌, ℕ, ◌+◌, ◌<◌, ◌&&◌, ltb, ◌↔◌, List, length, sym, ap, ◌∙◌, ⊎_elim, arith, length-append}
use Rattle.std.proofs.lemmas.List.{get_or_append_left}
use Rattle.std.proofs.lemmas.Bool.{cases_Bool, and_parts, and_from, and_left, ltb-true, lt-ltb}
use Rattle.sets.specs.Sets.{Set, count, both, below}
use Rattle.frame.specs.Frame.{Bar, Frame, size, bar_at, no_bar, among, induced, Free, Part, Most}
use Rattle.frame.specs.Laws.{with_more, Only, Appending}
use Rattle.sets.proofs.Counts.{count_le, count_same, count_longer}
use Rattle.frame.proofs.Among.{among_parts, free_part, part_trans}

-- the bars that the frame had keep their numbers
pub size_more : (f : Frame) (more : List Bar) → size (with_more f more) ≡ size f + length more
size_more f more = length-append f.bars more

pub bar_more : (f : Frame) (more : List Bar) (k : ℕ) → k < size f → bar_at (with_more f more) k ≡ bar_at f k
bar_more f more k = get_or_append_left f.bars more no_bar k

-- what is counted of a set of those bars
pub count_more : (f : Frame) (more : List Bar) (xs : Set) → Only f xs → count (size (with_more f more)) xs ≡ count (size f) xs
count_more f more xs h = ap (λ n. count n xs) (size_more f more) ∙ count_longer (size f) (length more) xs h

pub among_more : (f : Frame) (more : List Bar) (js xs : Set) → Only f xs → (k : ℕ) → among (with_more f more) js xs k ≡ among f js xs k
unfolding among
among_more f more js xs h k =
    ⊎_elim
    (λ y. ap (λ (b : Bar). xs k && (js b.one && js b.two)) (bar_more f more k (h k y)))
    (λ o. and_left _ _ o ∙ sym (and_left _ _ o))
    (cases_Bool (xs k))

pub induced_more : (f : Frame) (more : List Bar) (js xs : Set) → Only f xs → induced (with_more f more) js xs ≡ induced f js xs
induced_more f more js xs h =
    count_same (size (with_more f more)) _ _ (λ k _. among_more f more js xs h k) ∙ count_more f more (among f js xs) (λ k e. h k (among_parts f js xs k e).0)

-- two frames in which a set of bars has the same count, is a part or not and is free or not
record Alike (f g : Frame) (bs xs : Set) : Type 0 where
  counted : count (size f) xs ≡ count (size g) xs
  parts : Part f xs bs ↔ Part g xs bs
  frees : Free f xs ↔ Free g xs

alike_sym : (f g : Frame) (bs xs : Set) → Alike f g bs xs → Alike g f bs xs
alike_sym f g bs xs a = record { counted = sym a.counted; parts = (a.parts.1, a.parts.0); frees = (a.frees.1, a.frees.0) }

alike_more : (f : Frame) (more : List Bar) (bs xs : Set) → Only f xs → Alike (with_more f more) f bs xs
unfolding Part Free
alike_more f more bs xs h = record {
  counted = count_more f more xs h;
  parts = ((λ p k b e. p k (omega (arith, size_more f more)) e), (λ p k b e. p k (h k e) e));
  frees = ((λ free js two. omega (arith, free js two, induced_more f more js xs h)), (λ free js two. omega (arith, free js two, induced_more f more js xs h)));
}

-- a largest free part in one frame is one in another, if the sets of the first bars are alike in both: a set is cut down to those bars
most_across : (f g h : Frame) (bs xs : Set) → Only f bs → ((zs : Set) → Only f zs → Alike g h bs zs) → Only f xs → Most g bs xs → Most h bs xs
unfolding Part
most_across f g h bs xs only alike mine m = record {
  part = (alike xs mine).parts.0 m.part;
  free = (alike xs mine).frees.0 m.free;
  most = λ ys part free.
      let zs : Set = both ys (below (size f)) in
      let within : Part h zs ys = λ k b e. (and_parts (ys k) (ltb k (size f)) e).0 in
      let a = alike zs (λ k e. ltb-true k (size f) (and_parts (ys k) (ltb k (size f)) e).1) in
      let all = count_le (size h) ys zs (λ k b e. and_from (ys k) (ltb k (size f)) e (lt-ltb k (size f) (only k (part k b e)))) in
      let fewer = m.most zs (a.parts.1 (part_trans h zs ys bs within part)) (a.frees.1 (free_part h zs ys free within)) in
      omega (arith, a.counted, (alike xs mine).counted);
}

pub appending : Appending
appending f more bs xs only mine =
    let alike = alike_more f more bs in
    record {
      counted = (alike xs mine).counted;
      same_among = λ js. among_more f more js xs mine;
      same_induced = λ js. induced_more f more js xs mine;
      same_part = (alike xs mine).parts;
      same_free = (alike xs mine).frees;
      same_most = (
        most_across f (with_more f more) f bs xs only alike mine,
        most_across f f (with_more f more) bs xs only (λ zs z. alike_sym (with_more f more) f bs zs (alike zs z)) mine,
      );
    }
