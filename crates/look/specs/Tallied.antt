-- What the program counts of a frame and a set of its bars. Assumes nothing: these are definitions.
use Rattle.std.specs.Prelude.{◌≡◌, ℕ, List, ◌++◌, Some, None, Ok, Err, Option, Result}
use Rattle.sets.specs.Sets.{Set, count}
use Rattle.frame.specs.Frame.{size, induced}
use Rattle.frame.specs.Answers.{first_of}
use Rattle.frame.specs.Refusals.{frame_rows, set_rows}
use Rattle.frame.specs.Lent.{frame_in, set_in}
use Rattle.frame.specs.declared.refusal.Refusal.{Refusal}
use Rattle.look.specs.declared.Tally.{Tally}

-- the rows that judge a frame and then a set of its bars
abbrev pub rows : ℕ → (bars marks : List ℕ) → List (Option Refusal)
rows joints bars marks = frame_rows joints bars ++ set_rows (size (frame_in joints bars)) marks

-- how many bars of the set there are, in all and among a group of joints; or the first row that applies
abbrev pub Tallied : Result Tally Refusal → (joints : ℕ) (bars marks : List ℕ) (group : Set) → Type 0
Tallied (Ok t) joints bars marks group =
    (first_of (rows joints bars marks) ≡ None) × (t.all ≡ count (size (frame_in joints bars)) (set_in marks)) × (t.among ≡ induced (frame_in joints bars) group (set_in marks))
Tallied (Err e) joints bars marks group = first_of (rows joints bars marks) ≡ Some e
