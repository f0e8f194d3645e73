-- What one step of writing a list into a lent table does to the part that is written.
use Rattle.std.specs.Prelude.{ℕ, ◌+◌, ◌≤◌, ◌≡◌, List, ◌++◌, length, take}

-- The part before the place has grown by the new numbers, and next is the place after them.
pub record Grown (before : List ℕ) (place : ℕ) (new : List ℕ) (after : List ℕ) (next : ℕ) : Type 0 where
  pub same : length after ≡ length before
  pub past : next ≡ place + length new
  pub room : next ≤ length before
  pub written : take next after ≡ take place before ++ new
