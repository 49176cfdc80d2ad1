-- How what is wrong with a list reads, and what a sheet shows. Texts say pin where the code says joint. Assumes nothing: these are definitions.
use Rattle.std.specs.Prelude.{ℕ, List, ◌++◌, codes, decimal}
use Rattle.certificate.specs.declared.verdict.Overfull.{Overfull}
use Rattle.certificate.specs.declared.verdict.SheetVerdict.{SheetVerdict}
use Rattle.certificate.specs.declared.verdict.SheetVerdict.TheVariants.{Bound, TooSmall, Uncovered}

-- a row of a list that gives a joint three items or more
abbrev pub overfull_text : Overfull → List ℕ
overfull_text o = codes "row " ++ (decimal o.row.0 ++ (codes " pin " ++ (decimal o.joint.0 ++ codes " is given three")))

-- what a sheet shows
abbrev pub sheet_text : SheetVerdict → List ℕ
sheet_text (Bound n) = codes "at most " ++ decimal n
sheet_text (TooSmall g) = codes "group " ++ (decimal g.0 ++ codes " has less than two pins")
sheet_text (Uncovered k) = codes "bar " ++ (decimal k.0 ++ codes " is in no group and not alone")
