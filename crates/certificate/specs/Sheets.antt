-- Sheets: certificates of how many bars a free part of a set can have. In the field: a cover of the set by groups of joints and by single bars.
-- Assumes nothing: these are definitions.
use Rattle.std.specs.Prelude.{◌≡◌, ℕ, ◌+◌, ◌*◌, ◌/◌, ◌<◌, ◌≤◌, Bool, true, false, not, ◌&&◌, ◌⊎◌, List, length, slice_index_or}
use Rattle.sets.specs.Sets.{Set, all, count, over}
use Rattle.frame.specs.Frame.{Frame, size, among}
use Rattle.frame.specs.Lent.{set_in}
use Rattle.certificate.specs.Lists.{row_of}

-- a sheet: how many groups it has, the joints of each, and the bars that are counted alone
pub record Sheet : Type 0 where
  pub groups : ℕ
  pub group : ℕ → Set
  pub alone : Set

-- a bar is counted alone, or is a bar of the set among the joints of some group
abbrev pub Covered : Frame → (bars : Set) → Sheet → ℕ → Type 0
Covered f bs s k = (s.alone k ≡ true) ⊎ ((g : ℕ) × (g < s.groups) × (among f (s.group g) bs k ≡ true))

-- each group below g has two joints at least
abbrev pub Wide : Frame → Sheet → (g : ℕ) → Type 0
Wide f s g = (h : ℕ) → h < g → 2 ≤ count f.joints (s.group h)

-- each bar of the set below k is counted
abbrev pub Counted : Frame → (bars : Set) → Sheet → (k : ℕ) → Type 0
Counted f bs s k = (i : ℕ) → i < k → bs i ≡ true → Covered f bs s i

-- the rules of a sheet for a set: each group has two joints at least, and each bar of the set is counted
pub record Covers (f : Frame) (bs : Set) (s : Sheet) : Type 0 where
  pub two : Wide f s s.groups
  pub counted : Counted f bs s (size f)

-- twice the joints of the groups in sum, and the bars alone: the bound that a sheet shows, and three more for each group
abbrev pub total : Frame → Sheet → ℕ
total f s = 2 * over s.groups all (λ g. count f.joints (s.group g)) + count (size f) s.alone

-- the bound that a sheet shows is n: the bars alone, and for each group twice its joints less 3
abbrev pub Bounds : Frame → Sheet → (n : ℕ) → Type 0
Bounds f s n = n + 3 * s.groups ≡ total f s

-- the bound that a sheet shows is n or more
abbrev pub AtMost : Frame → (n : ℕ) → Sheet → Type 0
AtMost f n s = n + 3 * s.groups ≤ total f s

-- the sheet that lent numbers mean: a row of marks for each group, one a joint, and a mark for each bar alone
abbrev pub sheet_in : Frame → (groups alone : List ℕ) → Sheet
sheet_in f groups alone = record { groups = length groups / f.joints; group = λ g. set_in (row_of f.joints groups g); alone = set_in alone }

-- the bars of a set that are neither counted alone nor marked as being among some group
abbrev pub left_out : (bars alone : Set) → (covered : List Bool) → Set
left_out bs alone covered k = bs k && (not (alone k) && not (slice_index_or covered k false))
