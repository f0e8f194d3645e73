-- The columns of the rows as sets: what is told of them, and how a step changes them.
use Rattle.std.specs.Prelude.{ℕ, ◌<◌, ◌≡◌, ◌⊎◌, ◌↔◌, List, eqb, length, get_or}
use Rattle.meaning.specs.Number.{sum_to, choose, bit}
use Rattle.meaning.specs.Chain.{most_states}
use Rattle.meaning.specs.Row.{cell, unknown_column}
use Rattle.meaning.specs.Step.{Table, row}

-- The columns that count: those of the states, Goal and Trap.
abbrev pub column_count : ℕ
column_count = unknown_column most_states

-- State i is in the set of column j.
abbrev pub In : List ℕ → ℕ → ℕ → Type 0
In columns j i = bit (get_or columns j 0) i ≡ 1

-- The sets are those of the table t: the states whose rows have a weight in each column.
pub record Weighed (n : ℕ) (t : Table) (columns : List ℕ) : Type 0 where
  pub size : length columns ≡ column_count
  pub law : (i j : ℕ) → j < unknown_column n → In columns j i ↔ ((i < n) × (0 < cell (row t i) j))

-- i is in the set, and q is a member.
abbrev pub Among : ℕ → ℕ → ℕ → ℕ → Type 0
Among set i members q = (bit set i ≡ 1) × (bit members q ≡ 1)

-- q is in the set, and is not i.
abbrev pub Without : ℕ → ℕ → ℕ → Type 0
Without set i q = (bit set q ≡ 1) × (q ≡ i → ⊥)

-- Members are added to column j.
pub record Joined (columns : List ℕ) (j members : ℕ) (new : List ℕ) : Type 0 where
  pub size : length new ≡ length columns
  pub law : (i q : ℕ) → In new q i ↔ (In columns q i ⊎ ((q ≡ j) × (bit members i ≡ 1)))

-- To each column the states are added that are said to be brought to it.
pub record Carried (n : ℕ) (brings : ℕ → ℕ → Type 0) (columns new : List ℕ) : Type 0 where
  pub size : length new ≡ length columns
  pub law : (i j : ℕ) → j < unknown_column n → In new j i ↔ (In columns j i ⊎ brings i j)

-- Each column has the states that are said to be brought to it.
pub record Gathered (n : ℕ) (brought : ℕ → ℕ → Type 0) (columns : List ℕ) : Type 0 where
  pub size : length columns ≡ column_count
  pub law : (i j : ℕ) → j < unknown_column n → In columns j i ↔ brought i j

-- 1 where s is in column j and j is not its own.
abbrev pub counts : List ℕ → ℕ → ℕ → ℕ
counts columns s j = choose (eqb j s) 0 (bit (get_or columns j 0) s)

-- How many columns but its own s is in, and how many states but s are in its own column.
abbrev pub columns_in : ℕ → List ℕ → ℕ → ℕ
columns_in n columns s = sum_to (counts columns s) (unknown_column n)

abbrev pub rows_in : List ℕ → ℕ → ℕ
rows_in columns s = sum_to (λ i. choose (eqb i s) 0 (bit (get_or columns s 0) i)) most_states

-- q is in a column once s is removed: it was, or s was and q is one of those that had a weight to s.
pub record PassedOn (column from s q : ℕ) : Type 0 where
  pub other : q ≡ s → ⊥
  pub weighs : (bit column q ≡ 1) ⊎ ((bit column s ≡ 1) × (bit from q ≡ 1))

-- State i is in column j once s is removed.
pub record Stays (s : ℕ) (columns : List ℕ) (i j : ℕ) : Type 0 where
  pub other_row : i ≡ s → ⊥
  pub other_column : j ≡ s → ⊥
  pub weighs : In columns j i ⊎ (In columns s i × In columns j s)

-- s is removed from the columns.
pub record Emptied (n s : ℕ) (columns new : List ℕ) : Type 0 where
  pub size : length new ≡ length columns
  pub law : (i j : ℕ) → j < unknown_column n → In new j i ↔ Stays s columns i j
