-- What the frames and sets of the code mean, and what the calls that make them answer. Assumes nothing: these are definitions.
use Rattle.std.specs.Prelude.{◌≡◌, ℕ, List, length, Some, None, Ok, Err, Result}
use Rattle.sets.specs.Sets.{Set}
use Rattle.frame.specs.Frame.{Bar, Frame, Allowed, size}
use Rattle.frame.specs.Lent.{frame_in, set_in}
use Rattle.frame.specs.Answers.{first_of}
use Rattle.frame.specs.Refusals.{frame_rows, set_rows}
use Rattle.sets.specs.declared.ids.Ends.{Ends}
use Rattle.frame.specs.declared.views.BarSet.{BarSet}
use Rattle.frame.specs.declared.views.Frame.{Frame as LentFrame}
use Rattle.frame.specs.declared.refusal.Refusal.{Refusal}

-- the frame that a frame of the code is, and likewise the marks and the set of a set of bars
abbrev pub frame_of : LentFrame → Frame
frame_of f = frame_in f.joints f.bars.now

abbrev pub marks_of : BarSet → List ℕ
marks_of s = s.marks.now

abbrev pub set_of : BarSet → Set
set_of s = set_in (marks_of s)

abbrev pub bar_of : Ends → Bar
bar_of e = record { one = e.one.0; two = e.two.0 }

-- a frame is made of just what is lent, where no row applies; else the first row that does is the answer
abbrev pub Made : Result LentFrame Refusal → (joints : ℕ) (bars : List ℕ) → Type 0
Made (Ok f) joints bars = (first_of (frame_rows joints bars) ≡ None) × (frame_of f ≡ frame_in joints bars) × Allowed (frame_of f)
Made (Err e) joints bars = first_of (frame_rows joints bars) ≡ Some e

-- a set of bars is made of just the lent marks, where no row applies; else the first row that does is the answer
abbrev pub Marked : Result BarSet Refusal → Frame → (marks : List ℕ) → Type 0
Marked (Ok s) f marks = (first_of (set_rows (size f) marks) ≡ None) × (marks_of s ≡ marks) × (length marks ≡ size f)
Marked (Err e) f marks = first_of (set_rows (size f) marks) ≡ Some e
