-- How a refusal reads. Assumes nothing: this is a definition.
use Rattle.std.specs.Prelude.{ℕ, List, ◌++◌, codes, decimal}
use Rattle.frame.specs.declared.refusal.Refusal.{Refusal}
use Rattle.frame.specs.Refusals.{number, place}

-- the text of a refusal: its row and its place
abbrev pub refusal_text : Refusal → List ℕ
refusal_text r = codes "turned away by " ++ (decimal (number r) ++ (codes " at " ++ decimal (place r)))
