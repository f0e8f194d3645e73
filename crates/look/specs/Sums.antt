-- What is missing from each row.
use Rattle.std.specs.Prelude.{ℕ, ◌-◌, ◌<◌, ◌≡◌, List, length, get_or}
use Rattle.meaning.specs.Chain.{most_states, row_sum}

-- What is missing from the row of each state, and 0 past them.
pub record Lacks (denominators edges r : List ℕ) : Type 0 where
  pub size : length r ≡ most_states
  pub is : (i : ℕ) → i < most_states → get_or r i 0 ≡ get_or denominators i 0 - row_sum edges i

-- A weight is taken out of number i, where there is one.
pub record TakenOut (before : List ℕ) (i weight : ℕ) (after : List ℕ) : Type 0 where
  pub size : length after ≡ length before
  pub here : i < length before → get_or after i 0 ≡ get_or before i 0 - weight
  pub other : (k : ℕ) → (k ≡ i → ⊥) → get_or after k 0 ≡ get_or before k 0
