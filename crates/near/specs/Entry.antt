-- What is asked before the elimination, and before the last row is read.
use Rattle.std.specs.Prelude.{◌≡◌, ℕ, ◌+◌, ◌<◌, ◌≤◌, List, length, slice_index}
use Rattle.meaning.specs.Chain.{most_states}
use Rattle.meaning.specs.Refusal.{work_size}
use Rattle.meaning.specs.Near.{near_stage}
use Rattle.chain.specs.declared.Chain.{Chain}
use Rattle.survey.specs.declared.Sets.{Sets}
use Rattle.survey.specs.Sets.{chain_of, sets_of}
use Rattle.elimination.specs.Table.{part_at}
use Rattle.near.specs.Word.{value}
use Rattle.near.specs.Row.{value_at}
use Rattle.near.specs.Step.{outside_at}
use Rattle.near.specs.Table.{Worded}
use Rattle.near.specs.Walk.{Walkable}

-- The row of the start in w can be read: something leads to Goal, and no weight is above D.
pub record Readable (n start rows : ℕ) (w : List ℕ) : Type 0 where
  pub states : n ≤ most_states
  pub room : work_size n ≤ length w
  pub inside : start < n
  pub few : rows ≤ 4096
  pub goal : 0 < value_at (part_at n w start) n
  pub goal_most : value_at (part_at n w start) n ≤ value (outside_at n start w)
  pub trap : 0 < slice_index (part_at n w start) (n + 1) → 0 < value_at (part_at n w start) (n + 1)
  pub trap_most : value_at (part_at n w start) (n + 1) ≤ value (outside_at n start w)

-- The rows of a well-formed chain are laid out in w, with its own sets.
pub record Begun (c : Chain) (s : Sets) (denominators edges order w : List ℕ) : Type 0 where
  pub walks : Walkable (chain_of c denominators edges) (sets_of s) order
  pub length_order : length order ≡ c.states
  pub room : work_size c.states ≤ length w
  pub worded : Worded c.states 0 (near_stage (chain_of c denominators edges) (sets_of s) order 0) w
