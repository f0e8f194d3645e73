-- A table of packed rows in one list, part after part.
use Rattle.std.specs.Prelude.{◌≡◌, ◌⊎◌, Bool, List, ℕ, ◌*◌, ◌≤◌, ◌<◌, length, take, drop, Option, MatchOption}
use Rattle.meaning.specs.Number.{tab_from, bit}
use Rattle.meaning.specs.Chain.{most_states}
use Rattle.meaning.specs.Row.{Row, cell, width, exact}
use Rattle.meaning.specs.Refusal.{work_size}
use Rattle.meaning.specs.Step.{Table, row}
use Rattle.meaning.specs.Stop.{Large}
use Rattle.elimination.specs.Packed.{unpacked, Packed}
use Rattle.elimination.specs.Row.{Fit, Tested}

-- The numbers of row i of the table in w: its own part, and the row that this stands for.
unfoldable pub part_at : ℕ → List ℕ → ℕ → List ℕ
part_at n w i = take (width n) (drop (i * width n) w)

abbrev pub row_at : ℕ → List ℕ → ℕ → Row
row_at n w i = unpacked n (part_at n w i)

abbrev pub table_of : ℕ → List ℕ → Table
table_of n w = tab_from 0 n (row_at n w)

-- A state that no row has a weight to, a goal for one, in a table whose rows have all columns.
pub record Spare (n : ℕ) (t : Table) : Type 0 where
  pub state : ℕ
  pub inside : state < n
  pub none : (i : ℕ) → cell (row t i) state ≡ 0
  pub wide : (i : ℕ) → i < n → length (row t i) ≡ width n

-- The work table holds n packed rows, each of them fits, and two of them together have room in one part.
pub record Fitting (b : Bool) (n : ℕ) (w : List ℕ) : Type 0 where
  pub few : n ≤ most_states
  pub room : work_size n ≤ length w
  pub packed : (i : ℕ) → i < n → Packed n (part_at n w i)
  pub fit : (i : ℕ) → i < n → Fit b n (row_at n w i)
  pub spare : Spare n (table_of n w)

-- The n rows of a table are zero.
abbrev pub Blank : ℕ → List ℕ → Type 0
Blank n w = (i j : ℕ) → i < n → j < width n → cell (part_at n w i) j ≡ 0

-- v is as long as w, and the same past the table.
pub record Kept (n : ℕ) (w v : List ℕ) : Type 0 where
  pub len : length v ≡ length w
  pub past : drop (work_size n) v ≡ drop (work_size n) w

-- v is w with a part in the place of row i that stands for r.
pub record Put (n : ℕ) (w : List ℕ) (i : ℕ) (r : Row) (v : List ℕ) : Type 0 where
  pub kept : Kept n w v
  pub packed : Packed n (part_at n v i)
  pub here : row_at n v i ≡ r
  pub other : (j : ℕ) → j < n → (j ≡ i → ⊥) → part_at n v j ≡ part_at n w j

-- Row i of w has become r, in v, and the answer says whether it fits, and which divisor was taken out.
pub record Placed (b : Bool) (n : ℕ) (w : List ℕ) (i : ℕ) (r : Row) (taken : ℕ) (v : List ℕ) (answer : Option ℕ) : Type 0 where
  pub put : Put n w i r v
  pub tested : Tested b n r taken answer

-- The removal of s changes the row of state i, which has these targets: it is that of s, or has a weight to s.
abbrev pub ChangedBy : ℕ → ℕ → ℕ → Type 0
ChangedBy s i targets = (i ≡ s) ⊎ (bit targets s ≡ 1)

-- In v each row k is g k, is packed, and fits.
pub record Rows (b : Bool) (g : ℕ → Row) (n : ℕ) (v : List ℕ) : Type 0 where
  pub all : (k : ℕ) → k < n → row_at n v k ≡ g k
  pub packed : (k : ℕ) → k < n → Packed n (part_at n v k)
  pub fit : (k : ℕ) → k < n → Fit b n (g k)

-- In v each row k of w has become g k, is packed, and fits; or there is no answer, and some g k does not.
pub record Renewed {A : Type 0} (b : Bool) (g : ℕ → Row) (n : ℕ) (w v : List ℕ) (answer : Option A) : Type 0 where
  pub kept : Kept n w v
  pub is : MatchOption answer ((b ≡ exact) × ((k : ℕ) × ((k < n) × Large n (g k)))) (λ _. Rows b g n v)
