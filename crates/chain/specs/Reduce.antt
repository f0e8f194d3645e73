-- What gcd and a fraction's reducer give.
use Rattle.std.specs.Prelude.{ℕ, ◌/◌, ◌≡◌, eqb}
use Rattle.meaning.specs.Number.{choose, Greatest, gcd}
use Rattle.chain.specs.declared.fraction.Fraction.{Fraction}

pub record Common (a b g : ℕ) : Type 0 where
  pub is : g ≡ gcd a b
  pub greatest : Greatest a b g

-- Both divided by their greatest common divisor where that is above 0: 0/0 stays, and k/0 is 1/0.
abbrev pub reduced : Fraction → Fraction
reduced f =
    let g = gcd f.numerator f.denominator in
    choose (eqb g 0) f (record { numerator = f.numerator / g; denominator = f.denominator / g })
