-- What is gathered along the edges, by columns, and what is missing from a row.
use Rattle.std.specs.Prelude.{◌≡◌, List, ℕ, ◌+◌, ◌≤◌, ◌<◌, eqb, length}
use Rattle.meaning.specs.Number.{only, choose, bit}
use Rattle.meaning.specs.Chain.{most_states, M, edge_count, from, to, weight, carried, row_sum}
use Rattle.meaning.specs.Row.{cell, width, goal_column, trap_column, unknown_column}
use Rattle.meaning.specs.Step.{Sets}
use Rattle.meaning.specs.Refusal.{work_size}
use Rattle.elimination.specs.Table.{part_at, Kept}

-- The column of a target in the row of a live state: its own where it is live, else Goal where it has a path to an end, since then it is one,
-- else Trap.
unfoldable pub column_of : ℕ → Sets → ℕ → ℕ
column_of n k t =
    choose (eqb (bit k.live t) 1) t (choose (eqb (bit k.good t) 1) (goal_column n) (trap_column n))

-- What edge e brings to column j of row i: nothing where i is not live.
unfoldable pub share : ℕ → Sets → List ℕ → ℕ → ℕ → ℕ → ℕ
share n k edges i j e = only (eqb (bit k.live i) 1) (carried edges i (λ t. only (eqb (column_of n k t) j) 1) e)

-- What comes to column j of row i where x is missing from it: that is Unknown, and nothing where i is not live.
unfoldable pub lack : ℕ → ℕ → ℕ → ℕ → ℕ → ℕ
lack n live i x j = only (eqb j (unknown_column n)) (only (eqb (bit live i) 1) x)

-- v is w with the numbers r in the part of row i.
pub record Changed (n : ℕ) (w : List ℕ) (i : ℕ) (r : List ℕ) (v : List ℕ) : Type 0 where
  pub kept : Kept n w v
  pub here : part_at n v i ≡ r
  pub other : (j : ℕ) → j < n → (j ≡ i → ⊥) → part_at n v j ≡ part_at n w j

-- In v each number of the table is that of w and what `more` says of its row and column.
pub record Added (n : ℕ) (more : ℕ → ℕ → ℕ) (w v : List ℕ) : Type 0 where
  pub kept : Kept n w v
  pub cells : (i j : ℕ) → i < n → j < width n → cell (part_at n v i) j ≡ cell (part_at n w i) j + more i j

-- In v the table is what `held` says of each row and column.
pub record Held (n : ℕ) (held : ℕ → ℕ → ℕ) (w v : List ℕ) : Type 0 where
  pub kept : Kept n w v
  pub cells : (i j : ℕ) → i < n → j < width n → cell (part_at n v i) j ≡ held i j

-- Edge e can be added to the table in w.
pub record Addable (n : ℕ) (edges : List ℕ) (e : ℕ) (w : List ℕ) : Type 0 where
  pub few : n ≤ most_states
  pub room : work_size n ≤ length w
  pub source : from edges e < n
  pub target : to edges e < n
  pub small : (j : ℕ) → j < width n → cell (part_at n w (from edges e)) j + weight edges e ≤ M

-- The edges can be gathered in the table in w.
pub record Gatherable (n : ℕ) (edges w : List ℕ) : Type 0 where
  pub few : n ≤ most_states
  pub room : work_size n ≤ length w
  pub sources : (e : ℕ) → e < edge_count edges → from edges e < n
  pub targets : (e : ℕ) → e < edge_count edges → to edges e < n
  pub sums : (i : ℕ) → i < n → row_sum edges i ≤ M

-- What u says is missing from each row can be added to the table in w.
pub record Completable (n : ℕ) (u : ℕ → ℕ) (w : List ℕ) : Type 0 where
  pub few : n ≤ most_states
  pub room : work_size n ≤ length w
  pub sums : (i : ℕ) → i < n → cell (part_at n w i) (unknown_column n) + u i ≤ M
