-- What a reduced fraction is: 0/0 as it was; else both numbers over their greatest common divisor, and so in lowest terms.
use Prim.Native.Nat.{ℕ, ◌/◌, ◌<◌}
use mathlib.Core.Path.{◌≡◌, sym, ◌∙◌}
use native.Mathlib.Omega.{arith}
use native.Mathlib.Nat.{dvd_refl, dvd-zero, zero-div, div_self}
use borrow.Author.Tests.{eq-eqb, ne_eqb}
use Rattle.meaning.specs.Number.{gcd, Reduced}
use Rattle.theory.specs.Numbers.Gcd.{gcd_greatest, greatest_one, gcd_zero, common_whole, fraction_reduced}
use Rattle.chain.specs.Reduce.{reduced}
use Rattle.chain.specs.declared.fraction.Fraction.{Fraction}

module _ (f : Fraction) {g : ℕ} (e : g ≡ gcd f.numerator f.denominator) where
  pub stays : g ≡ 0 → f ≡ reduced f
  stays z = rw (eq-eqb (gcd f.numerator f.denominator) 0 (sym e ∙ z))

  pub divides : (g ≡ 0 → ⊥) → record { numerator = f.numerator / g; denominator = f.denominator / g } ≡ reduced f
  divides d = rw (ne_eqb (gcd f.numerator f.denominator) 0 (λ z. d (e ∙ z)), e)

module _ (f : Fraction) (whole : 0 < f.denominator) where
  pub terms : Reduced f.numerator f.denominator (reduced f).numerator (reduced f).denominator
  terms =
      let p = f.numerator in
      let q = f.denominator in
      rw (ne_eqb (gcd p q) 0 (λ z. let h = common_whole p q whole in omega arith))
      (fraction_reduced p q whole)

-- Zero over anything above 0 is 0/1.
pub zero : (b : ℕ) → 0 < b → reduced (record { numerator = 0; denominator = b }) ≡ record { numerator = 0; denominator = 1 }
zero b h =
    let g : b ≡ gcd 0 b =
    greatest_one 0 b _ _ (record { left = dvd-zero b; right = dvd_refl b; most = λ k p q. q }) (gcd_greatest 0 b) in
    sym (divides (record { numerator = 0; denominator = b }) g (λ z. omega arith)) ∙ rw (zero-div, div_self h)

-- Anything above 0 over 0 is 1/0.
pub endless : (a : ℕ) → 0 < a → reduced (record { numerator = a; denominator = 0 }) ≡ record { numerator = 1; denominator = 0 }
endless a h =
    sym (divides (record { numerator = a; denominator = 0 }) (sym (gcd_zero a)) (λ z. omega arith)) ∙ rw (zero-div, div_self h)
