-- What each verdict of a checker means, and what the calls answer. Assumes nothing: these are definitions.
use Rattle.std.specs.Prelude.{◌≡◌, ℕ, ◌<◌, ◌≤◌, true, not, ◌&&◌, List, ◌++◌, Some, None, Ok, Err, Result, ◌≢◌}
use Rattle.sets.specs.Sets.{Set, count, first}
use Rattle.frame.specs.Frame.{Frame, size, Free, Part, Most}
use Rattle.frame.specs.Answers.{Answered}
use Rattle.frame.specs.Refusals.{frame_rows}
use Rattle.frame.specs.Lent.{frame_in, set_in}
use Rattle.frame.specs.declared.refusal.Refusal.{Refusal}
use Rattle.certificate.specs.Lists.{crowded, ShownFree, list_in}
use Rattle.certificate.specs.Sheets.{Sheet, Covered, Wide, Counted, Covers, Bounds, sheet_in}
use Rattle.certificate.specs.Rows.{list_rows, sheet_rows, largest_rows}
use Rattle.certificate.specs.declared.verdict.Overfull.{Overfull}
use Rattle.certificate.specs.declared.verdict.SheetVerdict.{SheetVerdict}
use Rattle.certificate.specs.declared.verdict.SheetVerdict.TheVariants.{Bound, TooSmall, Uncovered}
use Rattle.certificate.specs.declared.verdict.NotLargest.{NotLargest}
use Rattle.certificate.specs.declared.verdict.NotLargest.TheVariants.{Outside, ListFails, SheetFails}

-- row k of a list is the first that gives a joint three items, and j is the first such joint of it
pub record FirstCrowded (f : Frame) (bs : Set) (at : ℕ → ℕ → ℕ) (k j : ℕ) : Type 0 where
  pub row : (k < size f) × (bs k ≡ true)
  pub joint : first f.joints (crowded f bs k (at k)) ≡ Some j
  pub before : (i : ℕ) → i < k → bs i ≡ true → first f.joints (crowded f bs i (at i)) ≡ None

-- a list is accepted exactly if it keeps its rules, and then the set is free; else it is said what is wrong first
abbrev pub ListSays : Result (Unit {0}) Overfull → Frame → (bars : Set) → (at : ℕ → ℕ → ℕ) → Type 0
ListSays (Ok _) f bs at = ShownFree f bs at × Free f bs
ListSays (Err o) f bs at = FirstCrowded f bs at o.row.0 o.joint.0 × (ShownFree f bs at → ⊥)

-- a sheet has a bound exactly if it keeps its rules, and then no free part of the set has more bars; else it is said what is wrong first
abbrev pub SheetSays : SheetVerdict → Frame → (bars : Set) → Sheet → Type 0
SheetSays (Bound n) f bs s = Covers f bs s × Bounds f s n × ((xs : Set) → Part f xs bs → Free f xs → count (size f) xs ≤ n)
SheetSays (TooSmall g) f bs s = (g.0 < s.groups) × (count f.joints (s.group g.0) < 2) × Wide f s g.0 × (Covers f bs s → ⊥)
SheetSays (Uncovered k) f bs s = Wide f s s.groups × (k.0 < size f) × (bs k.0 ≡ true) × (Covered f bs s k.0 → ⊥) × Counted f bs s k.0 × (Covers f bs s → ⊥)

-- the bars of a part that are not in the set
abbrev pub outside : (bars part : Set) → Set
outside bs xs k = xs k && not (bs k)

-- a part is accepted as largest exactly if it lies in the set, the list shows that it is free, and the sheet shows just its size as the bound of
-- the set; then it is a largest free part of the set, of that size. Else it is said what fails first: the first bar of the part that is not in the set,
-- what is wrong with the list, or what the sheet shows instead
abbrev pub LargestSays : Result ℕ NotLargest → Frame → (bars part : Set) → (at : ℕ → ℕ → ℕ) → Sheet → Type 0
LargestSays (Ok n) f bs xs at s = Most f bs xs × (n ≡ count (size f) xs) × ShownFree f xs at × Covers f bs s × Bounds f s n
LargestSays (Err (Outside k)) f bs xs at s = first (size f) (outside bs xs) ≡ Some k.0
LargestSays (Err (ListFails o)) f bs xs at s = Part f xs bs × ListSays (Err o) f xs at
LargestSays (Err (SheetFails v)) f bs xs at s = Part f xs bs × ShownFree f xs at × SheetSays v f bs s × (v ≢ Bound (count (size f) xs))

-- what the calls answer: the first row that applies, or the verdict on what the lent numbers mean
abbrev pub ListChecked : Result (Result (Unit {0}) Overfull) Refusal → ℕ → (bars chosen list : List ℕ) → Type 0
ListChecked r joints bars chosen list =
    let f = frame_in joints bars in
    Answered (λ v. ListSays v f (set_in chosen) (list_in f list)) r (frame_rows joints bars ++ list_rows f chosen list)

abbrev pub SheetChecked : Result SheetVerdict Refusal → ℕ → (bars chosen groups alone : List ℕ) → Type 0
SheetChecked r joints bars chosen groups alone =
    let f = frame_in joints bars in
    Answered (λ v. SheetSays v f (set_in chosen) (sheet_in f groups alone)) r (frame_rows joints bars ++ sheet_rows f chosen groups alone)

abbrev pub LargestChecked : Result (Result ℕ NotLargest) Refusal → ℕ → (bars chosen part list groups alone : List ℕ) → Type 0
LargestChecked r joints bars chosen part list groups alone =
    let f = frame_in joints bars in
    Answered (λ v. LargestSays v f (set_in chosen) (set_in part) (list_in f list) (sheet_in f groups alone)) r (frame_rows joints bars ++ largest_rows f chosen part list groups alone)
