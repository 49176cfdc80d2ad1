-- A list and a sheet together: a part that a list shows to be free and that is as large as a sheet allows is a largest one.
use Rattle.std.proofs.Common.{◌≡◌, ℕ, None, sym, arith}
use Rattle.sets.specs.Sets.{Set, count, first}
use Rattle.sets.proofs.First.{none_first}
use Rattle.frame.specs.Frame.{Frame, size, Free, Part, Most}
use Rattle.certificate.proofs.Facts.{not_outside}
use Rattle.certificate.specs.Sheets.{Sheet}
use Rattle.certificate.specs.Verdicts.{outside, SheetSays}
use Rattle.certificate.specs.declared.verdict.SheetVerdict.{SheetVerdict}
use Rattle.certificate.specs.declared.verdict.SheetVerdict.TheVariants.{Bound}

-- a part with no bar outside the set lies in it
pub lies_in : (f : Frame) (bs xs : Set) → None ≡ first (size f) (outside bs xs) → Part f xs bs
unfolding Part
lies_in f bs xs e k l t = not_outside (xs k) (bs k) (none_first (size f) (outside bs xs) (sym e) k l) t

pub largest : (f : Frame) (bs xs : Set) (s : Sheet) (n : ℕ) → Part f xs bs → Free f xs → SheetSays (Bound n) f bs s → n ≡ count (size f) xs → Most f bs xs
largest f bs xs s n part free says e = record { part = part; free = free; most = λ ys p q. omega (arith, says.2 ys p q, e) }

-- bounds that differ are different verdicts
pub other_bound : (n m size : ℕ) → (n ≡ size → ⊥) → size ≡ m → ◌≡◌ {A = SheetVerdict} (Bound n) (Bound m) → ⊥
other_bound n m size d e b = let same : n ≡ m = cc in d (omega arith)
