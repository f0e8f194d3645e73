-- What is made of a table: its first rows, or the turn of one state.
use Rattle.std.specs.Prelude.{◌≡◌, Bool, List, ℕ, ◌<◌, Option, MatchOption}
use Rattle.meaning.specs.Step.{Table, row}
use Rattle.meaning.specs.Stop.{Unfit}
use Rattle.elimination.specs.Row.{Fit}
use Rattle.elimination.specs.Packed.{Packed}
use Rattle.elimination.specs.Table.{part_at, table_of, Kept}

-- The table in w has become t, in v: each part is packed and stands for its row of t, column by column, and each row fits.
pub record Reached (b : Bool) (n : ℕ) (t : Table) (w v : List ℕ) : Type 0 where
  pub kept : Kept n w v
  pub same : table_of n v ≡ t
  pub packed : (i : ℕ) → i < n → Packed n (part_at n v i)
  pub fit : (i : ℕ) → i < n → Fit b n (row t i)

-- The table t is made in v and each row of it fits; or there is no answer, and one does not.
pub record Made {A : Type 0} (b : Bool) (n : ℕ) (t : Table) (w v : List ℕ) (answer : Option A) : Type 0 where
  pub kept : Kept n w v
  pub is : MatchOption answer (Unfit b n t) (λ _. Reached b n t w v)
