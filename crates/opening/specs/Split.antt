-- The four tables of a flat one.
use Rattle.std.specs.Prelude.{ℕ, ◌+◌, ◌*◌, ◌≤◌, ◌<◌, ◌≡◌, List, length, get_or, take, drop}
use Rattle.meaning.specs.Number.{filled}
use Rattle.meaning.specs.Chain.{most_states}
use Rattle.meaning.specs.File.{Tables}
use Rattle.chainfile.specs.Tells.{tables}
use Rattle.opening.specs.Sizes.{edges_at}

abbrev pub states_part : ℕ → List ℕ → List ℕ
states_part from table = take most_states (drop from table)

abbrev pub split : List ℕ → Tables
split table = tables (states_part 0 table) (drop edges_at table) (states_part most_states table) (states_part (2 * most_states) table)

-- The numbers of the states at the front of their parts, and the edges as they were.
abbrev pub stored : List ℕ → List ℕ → List ℕ → Tables → Tables
stored denominators order rewards t =
    tables (filled denominators t.denominators) t.edges (filled order t.order) (filled rewards t.rewards)

-- The first k numbers stand in the table from a place on, and the others are as they were.
pub record Placed (at k : ℕ) (numbers before after : List ℕ) : Type 0 where
  pub upto : k ≤ length numbers
  pub size : length after ≡ length before
  pub new : (j : ℕ) → j < k → get_or after (at + j) 0 ≡ get_or numbers j 0
  pub below : (j : ℕ) → j < at → get_or after j 0 ≡ get_or before j 0
  pub above : (j : ℕ) → at + k ≤ j → get_or after j 0 ≡ get_or before j 0
