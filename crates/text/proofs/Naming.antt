-- A number after its name is written where it has room; and what is promised of it determines the place and the buffer.
use Prim.Native.Nat.{ℕ, ◌+◌, ◌^◌, ◌≤◌, ◌<◌}
use mathlib.Core.Path.{◌≡◌, sym, ◌∙◌}
use mathlib.Core.List.{List}
use native.Mathlib.Omega.{arith}
use lib.ListN.{length, length-append}
use Rattle.meaning.specs.Text.{decimal, most_digits}
use Rattle.meaning.specs.Report.{named_text}
use Rattle.theory.specs.Numbers.Decimal.{digits}
use Rattle.octets.specs.Written.{Written, Stored}
use Rattle.octets.proofs.Storing.{stored_unique}
use Rattle.text.specs.Pieces.{Named, written, full}

-- A number of 64 bits has at most 20 digits.
pub named_room : (before : List ℕ) (place : ℕ) (name : List ℕ) (x : ℕ) → x < 2 ^ 64 → place + (length name + most_digits) ≤ length before
    → place + length (named_text name x) ≤ length before
named_room before place name x small h = simp length-append (omega (arith, digits 19 x (omega arith)))

module _ {before after name : List ℕ} {place next x : ℕ} (room : place + (length name + most_digits) ≤ length before) (n : Named before place name x after next) where
  pub named_written : Written before place (named_text name x) after next
  named_written = go n
    where
      go : Named before place name x after next → Written before place (named_text name x) after next
      go (written h w) = w
      go (full h e q) = absurd (omega arith)

  pub named_past : x < 2 ^ 64 → next ≤ place + (length name + most_digits)
  named_past small = omega (arith, named_written.past, length-append name (decimal x), digits 19 x (omega arith))

-- One place and one buffer.
pub named_unique : {before name after after' : List ℕ} {place x next next' : ℕ} → Named before place name x after next
    → Named before place name x after' next' → (after ≡ after') × (next ≡ next')
named_unique (written h w) (written h' w') = stored_unique (Stored.written w) (Stored.written w')
named_unique (written h w) (full h' e' q') = absurd (omega arith)
named_unique (full h e q) (written h' w') = absurd (omega arith)
named_unique (full h e q) (full h' e' q') = (e ∙ sym e', q ∙ sym q')
