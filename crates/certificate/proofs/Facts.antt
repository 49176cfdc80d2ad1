-- What tests of several truth values say of one.
use Rattle.std.proofs.Common.{◌≡◌, ℕ, Bool, true, false, cond, not, ◌&&◌, ◌⊎◌, refl, ap, inl, inr, arith}
use Rattle.std.proofs.lemmas.Bool.Decides.{nat_tests}

pub in_or_out : (a b c : Bool) → (a && (not b && not c)) ≡ false → a ≡ true → (b ≡ true) ⊎ (c ≡ true)
in_or_out a true c e t = inl refl
in_or_out a false true e t = inr refl
in_or_out true false false e t = absurd (omega (arith, ap (λ (b : Bool). cond {A = ℕ} b 1 0) e))
in_or_out false false false e t = absurd (omega (arith, ap (λ (b : Bool). cond {A = ℕ} b 1 0) t))

pub not_outside : (a b : Bool) → (a && not b) ≡ false → a ≡ true → b ≡ true
not_outside a b e t = grind (arith, nat_tests)
