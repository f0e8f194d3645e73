-- A number after its name, as a piece of a line.
use Rattle.std.specs.Prelude.{ℕ, ◌+◌, ◌≤◌, ◌<◌, ◌≡◌, List, length}
use Rattle.meaning.specs.Text.{most_digits}
use Rattle.meaning.specs.Report.{named_text}
use Rattle.octets.specs.Written.{Written}

-- Both stand from the place on where there is room for the name and any number; else every byte is as it was, and the place too.
pub data Named (before : List ℕ) (place : ℕ) (name : List ℕ) (x : ℕ) (after : List ℕ) (next : ℕ) : Type 0 where
  written : place + (length name + most_digits) ≤ length before → Written before place (named_text name x) after next
      → Named before place name x after next
  full : length before < place + (length name + most_digits) → after ≡ before → next ≡ place → Named before place name x after next
