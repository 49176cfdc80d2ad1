-- That lists and sheets are right, whoever wrote them, each named by the contract of a function. Assumes nothing: these are statements.
use Rattle.sets.specs.Sets.{Set, count}
use Rattle.std.specs.Prelude.{ℕ}
use Rattle.frame.specs.Frame.{Frame, Sound, size, Free, Part}
use Rattle.certificate.specs.Lists.{ShownFree}
use Rattle.certificate.specs.Sheets.{Sheet, Covers, AtMost}

-- in a sound frame, a set with a list that keeps its rules is free
abbrev pub ListsRight : Type 0
ListsRight = (f : Frame) (bs : Set) (at : ℕ → ℕ → ℕ) → Sound f → ShownFree f bs at → Free f bs

-- a sheet that keeps its rules for a set bounds every free part of the set
abbrev pub SheetsRight : Type 0
SheetsRight = (f : Frame) (bs xs : Set) (s : Sheet) → Covers f bs s → Part f xs bs → Free f xs → AtMost f (count (size f) xs) s
