-- What a turn picks, and what the turns leave.
use Rattle.std.specs.Prelude.{ℕ, ◌*◌, ◌≤◌, ◌<◌, ◌≡◌, ◌↔◌, true, Option, None, Some, List, [], length}
use Rattle.meaning.specs.Number.{bit}
use Rattle.meaning.specs.Chain.{most_states, Chain}
use Rattle.meaning.specs.Step.{Sets, Right, goes}
use Rattle.meaning.specs.Choice.{exact_at, Left, products_to}
use Rattle.theory.specs.Chains.Fine.{Fine}
use Rattle.theory.specs.Numbers.Least.{FirstLeast}
use Rattle.theory.specs.Outcomes.Turns.{Turns}
use Rattle.choice.specs.Columns.{column_count, Weighed, rows_in, columns_in}
use Rattle.choice.specs.declared.turns.Pick.{Pick}
use Rattle.choice.specs.declared.turns.Tally.{Tally}

-- State i is in the set.
abbrev pub Held : ℕ → ℕ → Type 0
Held set i = bit set i ≡ 1

-- The product of state s, by the sets of the columns.
abbrev pub product_in : ℕ → List ℕ → ℕ → ℕ
product_in n columns s = rows_in columns s * columns_in n columns s

-- No product is more than that.
abbrev pub most_product : ℕ
most_product = most_states * column_count

-- Of the states below n that have the property the first of the least is picked, with its value.
pub record Picked (F : ℕ → Type 0) (value : ℕ → ℕ) (n : ℕ) (pick : Pick) : Type 0 where
  pub first : FirstLeast F value n pick.state
  pub is : pick.product ≡ value pick.state
  pub few : pick.product ≤ most_product

-- It is, or none is picked, since none has the property.
abbrev pub Best : (ℕ → Type 0) → (ℕ → ℕ) → ℕ → Option Pick → Type 0
Best F value m None = (i : ℕ) → i < m → F i → ⊥
Best F value m (Some pick) = Picked F value m pick

-- Products can be told of the columns.
pub record Pickable (n : ℕ) (columns : List ℕ) : Type 0 where
  pub size : length columns ≡ column_count
  pub few : n ≤ most_states

-- The turns can begin: the columns are those of the first rows, the set has the states that go, and the list is n long.
pub record Ready (c : Chain) (k : Sets) (n going : ℕ) (columns order : List ℕ) : Type 0 where
  pub states : c.states ≡ n
  pub few : n ≤ most_states
  pub fine : Fine c
  pub right : Right c k
  pub start : c.start < c.states
  pub goers : (i : ℕ) → Held going i ↔ (goes c.start k.live i ≡ true)
  pub weighed : Weighed n (exact_at c k [] 0) columns
  pub size : length order ≡ n

-- The turns are taken, and no state is left.
pub record Turned (c : Chain) (k : Sets) (tally : Tally) (order : List ℕ) : Type 0 where
  pub size : length order ≡ c.states
  pub turns : Turns c k order tally.count
  pub done : (i : ℕ) → Left c k order tally.count i → ⊥
  pub sum : tally.sum ≡ products_to c k order tally.count
