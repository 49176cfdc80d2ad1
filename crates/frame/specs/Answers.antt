-- What a call answers that judges what it is given, row by row: what the first row that applies says is wrong, or a value. Assumes nothing: these
-- are definitions.
use Rattle.std.specs.Prelude.{◌≡◌, List, [], ◌∷◌, Some, None, Ok, Err, Option, Result}
use Rattle.std.specs.Option.{option_or}

-- the first row that applies is the answer
abbrev pub first_of : {E : Type 0} → List (Option E) → Option E
first_of [] = None
first_of (row ∷ rows) = option_or row (first_of rows)

-- what a judge of one or more rows answers: nothing, or what is wrong
abbrev pub Judged : {E : Type 0} → Result (Unit {0}) E → Option E → Type 0
Judged (Ok _) row = row ≡ None
Judged (Err e) row = row ≡ Some e

-- what a call answers: the first of its rows that applies, or, where none does, a value of which more is said
abbrev pub Answered : {A E : Type 0} → (says : A → Type 0) → Result A E → List (Option E) → Type 0
Answered says (Ok a) rows = (first_of rows ≡ None) × says a
Answered says (Err e) rows = first_of rows ≡ Some e
