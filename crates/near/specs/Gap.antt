-- Columns that hold nothing, and loops over the others.
use Rattle.std.specs.Prelude.{◌≡◌, ℕ, ◌<◌, ◌≤◌, List, length, ◌≢◌, slice_index, slice_set}
use Rattle.elimination.specs.Table.{part_at}
use Rattle.near.specs.declared.wide.Gap.{Gap}

-- A gap lies in the first m columns.
abbrev pub Within : Gap → ℕ → Type 0
Within g m = (g.from ≤ g.to) × (g.to ≤ m)

-- A row has nothing in the gap.
pub record Empty (g : Gap) (r : List ℕ) : Type 0 where
  pub nothing : (j : ℕ) → g.from ≤ j → j < g.to → slice_index r j ≡ 0

-- The states of the gap are gone from the table: no row has a weight to them, and theirs have none.
pub record Gone (n : ℕ) (g : Gap) (w : List ℕ) : Type 0 where
  pub within : Within g n
  pub columns : (i : ℕ) → i < n → Empty g (part_at n w i)
  pub rows : (i : ℕ) → g.from ≤ i → i < g.to → (j : ℕ) → slice_index (part_at n w i) j ≡ 0

-- All but s are gone, which may be among them.
pub record Going (n s : ℕ) (g : Gap) (w : List ℕ) : Type 0 where
  pub within : Within g n
  pub columns : (i : ℕ) → i < n → (j : ℕ) → g.from ≤ j → j < g.to → (j ≢ s) → slice_index (part_at n w i) j ≡ 0
  pub rows : (i : ℕ) → g.from ≤ i → i < g.to → (i ≢ s) → (j : ℕ) → slice_index (part_at n w i) j ≡ 0

-- The rows of the gap have no weight to s, and the others none to its states but s.
pub record Cleared (n s : ℕ) (g : Gap) (w : List ℕ) : Type 0 where
  pub within : Within g n
  pub columns : (i : ℕ) → i < n → Empty g (slice_set (part_at n w i) s 0)
  pub rows : (i : ℕ) → g.from ≤ i → i < g.to → slice_index (part_at n w i) s ≡ 0

-- In v the numbers of l from `from` to before `to` are new, and the others as they were.
pub record Spanned (f : ℕ → ℕ) (from to : ℕ) (l v : List ℕ) : Type 0 where
  pub ordered : from ≤ to
  pub len : length v ≡ length l
  pub new : (j : ℕ) → from ≤ j → j < to → slice_index v j ≡ f j
  pub before : (j : ℕ) → j < from → slice_index v j ≡ slice_index l j
  pub after : (j : ℕ) → to ≤ j → slice_index v j ≡ slice_index l j

-- A gap r that is g, or g with the column of s.
pub record Widened (g : Gap) (s : ℕ) (r : Gap) : Type 0 where
  pub ordered : g.from ≤ g.to → r.from ≤ r.to
  pub most : (n : ℕ) → g.to ≤ n → s < n → r.to ≤ n
  pub each : (j : ℕ) → r.from ≤ j → j < r.to → (j ≢ s) → (g.from ≤ j) × (j < g.to)
