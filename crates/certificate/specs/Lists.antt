-- Lists: certificates that a set of bars is free. In the field: for each bar an orientation of the set and of three more copies of the bar,
-- with at most two arcs into each joint. Assumes nothing: these are definitions.
use Rattle.std.specs.Prelude.{◌≡◌, ℕ, zero, suc, ◌+◌, ◌*◌, ◌<◌, ◌≤◌, true, cond, ◌&&◌, ◌⊎◌, List, take, drop, ◌==◌, nat_lt, slice_index}
use Rattle.sets.specs.Sets.{Set, count}
use Rattle.frame.specs.Frame.{Bar, Frame, size, bar_at}

-- how many items a row gives to joints: one for each bar of the frame, and three
abbrev pub width : Frame → ℕ
width f = size f + 3

-- the bar of each item of a row: the bars of the frame in turn, and then three further copies of the row's own bar
abbrev pub item : Frame → (own : ℕ) → ℕ → ℕ
item f own i = cond (nat_lt i (size f)) i own

-- how many items a row gives to a joint, where `at` says the joint of each item; bars that are not in the set are not counted
unfoldable pub given : Frame → (bars : Set) → (own : ℕ) → (at : ℕ → ℕ) → (joint : ℕ) → ℕ
given f bs own at j = count (width f) (λ i. bs (item f own i) && at i == j)

-- the joints that a row gives three items or more
abbrev pub crowded : Frame → (bars : Set) → (own : ℕ) → (at : ℕ → ℕ) → Set
crowded f bs own at j = nat_lt 2 (given f bs own at j)

-- the rules of one row: each item of the set is given to an end of its bar, and no joint is given more than two
pub record Row (f : Frame) (bs : Set) (own : ℕ) (at : ℕ → ℕ) : Type 0 where
  pub ends : (i : ℕ) → i < width f → bs (item f own i) ≡ true → (at i ≡ (bar_at f (item f own i)).one) ⊎ (at i ≡ (bar_at f (item f own i)).two)
  pub two_each : (j : ℕ) → j < f.joints → given f bs own at j ≤ 2

-- the rules of a list that shows that a set is free: a row for each bar of the set
unfoldable pub ShownFree : Frame → (bars : Set) → (at : ℕ → ℕ → ℕ) → Type 0
ShownFree f bs at = (own : ℕ) → own < size f → bs own ≡ true → Row f bs own (at own)

-- row k of numbers that lie in rows of w
abbrev pub row_of : (w : ℕ) → List ℕ → ℕ → List ℕ
row_of w xs k = take w (drop (k * w) xs)

-- the end of a bar by number: 0 is the first, 1 the second
abbrev pub end_of : Bar → ℕ → ℕ
end_of b zero = b.one
end_of b (suc n) = b.two

-- the joint of each item, by the numbers of one row, and by those of a whole list
abbrev pub row_in : Frame → (own : ℕ) → (row : List ℕ) → ℕ → ℕ
row_in f own row i = end_of (bar_at f (item f own i)) (slice_index row i)

abbrev pub list_in : Frame → (list : List ℕ) → ℕ → ℕ → ℕ
list_in f list own = row_in f own (row_of (width f) list own)
