-- Decimal digits as bytes.
use Rattle.std.specs.Prelude.{ℕ, ◌-◌, ◌≡◌, Option, Some, None}
use Rattle.meaning.specs.Text.{IsDigit}

-- The digit that a byte stands for, and none where it stands for none.
pub data Digit (byte : ℕ) (digit : Option ℕ) : Type 0 where
  stands : IsDigit byte → digit ≡ Some (byte - 48) → Digit byte digit
  none : (IsDigit byte → ⊥) → digit ≡ None → Digit byte digit
