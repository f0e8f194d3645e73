-- What the states of a chain get in a round, in a table.
use Rattle.std.specs.Prelude.{ℕ, ◌/◌, ◌≤◌, ◌<◌, ◌≡◌, List, eqb, length, get_or}
use Rattle.meaning.specs.Number.{choose, bit}
use Rattle.meaning.specs.Chain.{most_states}
use Rattle.meaning.specs.Within.{all_parts}

-- What each of n states gets can be divided.
pub record Divides (n : ℕ) (denominators : List ℕ) : Type 0 where
  pub few : n ≤ most_states
  pub some : (i : ℕ) → i < n → 0 < get_or denominators i 0

-- What state i gets where its edges carry so much.
abbrev pub gets : ℕ → List ℕ → List ℕ → ℕ → ℕ
gets goals denominators carried i = choose (eqb (bit goals i) 1) all_parts (get_or carried i 0 / get_or denominators i 0)

pub record Divided (n goals : ℕ) (denominators carried values : List ℕ) : Type 0 where
  pub size : length values ≡ most_states
  pub is : (i : ℕ) → i < n → get_or values i 0 ≡ gets goals denominators carried i
