-- What is turned away: the number and the place of each refusal, and the rows by which lent numbers are judged.
-- Assumes nothing: these are definitions.
use Rattle.std.specs.Prelude.{ℕ, ◌+◌, ◌*◌, ◌/◌, ◌%◌, not, ◌||◌, List, [], ◌∷◌, length, Option, ◌==◌, nat_le, nat_lt, slice_index}
use Rattle.std.specs.Option.{option_map}
use Rattle.std.specs.Bool.{then_some}
use Rattle.sets.specs.Sets.{Set, first}
use Rattle.frame.specs.declared.refusal.Lent.{Lent}
use Rattle.frame.specs.declared.refusal.Lent.TheVariants.{Marks, Room}
use Rattle.frame.specs.declared.refusal.Refusal.{Refusal}
use Rattle.frame.specs.declared.refusal.Refusal.TheVariants.{JointCount, BarNumbers, JointPast, EqualEnds, Length, Mark, ListNumbers, GroupNumbers, NoSuchBar, SmallGroup}

-- the number of a refusal's row
abbrev pub number : Refusal → ℕ
number JointCount = 1
number (BarNumbers n) = 2
number (JointPast k) = 3
number (EqualEnds k) = 4
number (Length which) = 5
number (Mark k) = 6
number (ListNumbers k) = 7
number (GroupNumbers n) = 8
number (NoSuchBar k) = 9
number SmallGroup = 10

-- marks are 0 and room is 1
abbrev pub which : Lent → ℕ
which Marks = 0
which Room = 1

-- the place that a refusal names
abbrev pub place : Refusal → ℕ
place JointCount = 0
place (BarNumbers n) = n
place (JointPast k) = k
place (EqualEnds k) = k.0
place (Length l) = which l
place (Mark k) = k
place (ListNumbers k) = k
place (GroupNumbers n) = n
place (NoSuchBar k) = k.0
place SmallGroup = 0

-- 1: fewer than 2 joints, or more than 512
abbrev pub joints_row : ℕ → Option Refusal
joints_row joints = then_some (nat_lt joints 2 || nat_lt 512 joints) JointCount

-- 2: an odd count of numbers, which is not two for each bar, or more than 2,048 bars
abbrev pub numbers_row : List ℕ → Option Refusal
numbers_row bars = then_some (length bars % 2 == 1 || nat_lt 2048 (length bars / 2)) (BarNumbers (length bars))

-- 3: a joint past the frame, the first
abbrev pub past : (joints : ℕ) → List ℕ → Set
past joints bars k = nat_le joints (slice_index bars k)

abbrev pub ends_row : ℕ → List ℕ → Option Refusal
ends_row joints bars = option_map JointPast (first (length bars) (past joints bars))

-- 4: a bar with twice the same joint, the first
abbrev pub equal_ends : List ℕ → Set
equal_ends bars k = slice_index bars (2 * k) == slice_index bars (2 * k + 1)

abbrev pub apart_row : List ℕ → Option Refusal
apart_row bars = option_map (λ k. EqualEnds (record { 0 = k })) (first (length bars / 2) (equal_ends bars))

-- 5: marks or room of another length than they should have
abbrev pub length_row : Lent → (has wanted : ℕ) → Option Refusal
length_row lent has wanted = then_some (not (has == wanted)) (Length lent)

-- 6: a mark that is neither 0 nor 1, the first
abbrev pub no_mark : List ℕ → Set
no_mark marks k = nat_lt 1 (slice_index marks k)

abbrev pub marks_row : List ℕ → Option Refusal
marks_row marks = option_map Mark (first (length marks) (no_mark marks))

-- the rows that judge a frame, and those that judge the marks of a set of its bars
abbrev pub frame_rows : ℕ → List ℕ → List (Option Refusal)
frame_rows joints bars = joints_row joints ∷ (numbers_row bars ∷ (ends_row joints bars ∷ (apart_row bars ∷ [])))

abbrev pub set_rows : (bar_count : ℕ) → List ℕ → List (Option Refusal)
set_rows n marks = length_row Marks (length marks) n ∷ (marks_row marks ∷ [])
