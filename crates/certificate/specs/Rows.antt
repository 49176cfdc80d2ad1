-- What is turned away by the checkers: the rows that judge lent lists and groups, and all rows of each call in order.
-- Assumes nothing: these are definitions.
use Rattle.std.specs.Prelude.{ℕ, ◌*◌, ◌/◌, ◌%◌, not, ◌||◌, List, [], ◌∷◌, ◌++◌, map, length, Option, ◌==◌, nat_lt}
use Rattle.std.specs.Option.{option_or, option_map}
use Rattle.std.specs.Bool.{then_some}
use Rattle.sets.specs.Sets.{first}
use Rattle.frame.specs.Frame.{Frame, size}
use Rattle.frame.specs.Refusals.{length_row, no_mark, marks_row, set_rows}
use Rattle.frame.specs.declared.refusal.Lent.TheVariants.{Marks}
use Rattle.frame.specs.declared.refusal.Refusal.{Refusal}
use Rattle.frame.specs.declared.refusal.Refusal.TheVariants.{ListNumbers, GroupNumbers}
use Rattle.certificate.specs.Lists.{width}

-- row 7 of the refusals: a list of another length than a row for each bar, or else with a number above 1, the first
abbrev pub list_row : Frame → List ℕ → Option Refusal
list_row f list = option_or (then_some (not (length list == size f * width f)) (ListNumbers (length list))) (option_map ListNumbers (first (length list) (no_mark list)))

-- row 8 of the refusals: numbers that are not one mark a joint for each group, or more than 1,024 groups
abbrev pub groups_row : Frame → List ℕ → Option Refusal
groups_row f groups = then_some (not (length groups % f.joints == 0) || nat_lt 1024 (length groups / f.joints)) (GroupNumbers (length groups))

-- rows 5 and 6 of the refusals for several slices of marks
abbrev pub lengths_rows : (wanted : ℕ) → List (List ℕ) → List (Option Refusal)
lengths_rows n slices = map (λ marks. length_row Marks (length marks) n) slices

abbrev pub marks_rows : List (List ℕ) → List (Option Refusal)
marks_rows slices = map marks_row slices

-- the rows of refusals of what is lent beside a frame, in their order: a list for a set; a sheet for a set; a list for a part of a set, and a sheet for the set
abbrev pub list_rows : Frame → (chosen list : List ℕ) → List (Option Refusal)
list_rows f chosen list = set_rows (size f) chosen ++ (list_row f list ∷ [])

abbrev pub sheet_rows : Frame → (chosen groups alone : List ℕ) → List (Option Refusal)
sheet_rows f chosen groups alone =
    lengths_rows (size f) (chosen ∷ (alone ∷ [])) ++ (marks_rows (chosen ∷ (alone ∷ (groups ∷ []))) ++ (groups_row f groups ∷ []))

abbrev pub largest_rows : Frame → (chosen part list groups alone : List ℕ) → List (Option Refusal)
largest_rows f chosen part list groups alone =
    lengths_rows (size f) (chosen ∷ (part ∷ (alone ∷ [])))
    ++ (marks_rows (chosen ∷ (part ∷ (alone ∷ (groups ∷ [])))) ++ (list_row f list ∷ (groups_row f groups ∷ [])))
