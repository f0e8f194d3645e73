-- When a row sum is wrong.
use Prim.Native.Nat.{ℕ, ◌<◌}
use mathlib.Core.Path.{◌≡◌, refl}
use mathlib.Core.Bool.{Bool, true, false, not}
use lib.Dec.{eqb, ltb}
use borrow.Author.Tests.{eqb-true, eqb-false}
use Rattle.meaning.specs.Number.{decides}
use Rattle.meaning.specs.Refusal.{WrongSum}
use Rattle.theory.specs.Numbers.Decide.{compares}

-- Where a sum may be short, a comparison decides whether it is too large.
pub exceeds : (sum denominator : ℕ) → decides (WrongSum true sum denominator) (ltb denominator sum)
exceeds sum denominator = compares (denominator < sum) denominator sum (λ h. h) (λ h. h)

-- Where a sum may not be short, a comparison decides whether it differs from the denominator.
pub differs : (sum denominator : ℕ) → decides (WrongSum false sum denominator) (not (eqb sum denominator))
differs sum denominator = go (eqb sum denominator) refl
  where
    go : (t : Bool) → eqb sum denominator ≡ t → decides (sum ≡ denominator → ⊥) (not t)
    go true e = λ f. f (eqb-true sum denominator e)
    go false e = eqb-false sum denominator e
