-- The number of refusal 12: what stops the elimination of a well-formed input, and at which place.
use Rattle.std.specs.Prelude.{ℕ, suc, ◌≤◌, ◌<◌, ◌≡◌, ◌⊎◌, Bool, get_or}
use Rattle.meaning.specs.Number.{only}
use Rattle.meaning.specs.Chain.{most_states, M, Live}
use Rattle.meaning.specs.Figure.{earned}
use Rattle.meaning.specs.Row.{Row, total, reward, exact}
use Rattle.meaning.specs.Step.{Table, row, Sets, Right, stage}
use Rattle.meaning.specs.Refusal.{Lent, Entry}

-- The reward of each state: 0 for an entry that is lent none.
abbrev pub reward_of : Lent → ℕ → ℕ
reward_of l i = get_or l.rewards i 0

-- What one turn in state i earns in an entry, times its denominator: nothing in an entry that is lent no rewards, whatever its edges say.
abbrev pub earns : Entry → Lent → ℕ → ℕ
earns x l i = only x.rewards (earned l.chain (reward_of l) i)

-- The state at position p of the order.
abbrev pub turn : Lent → ℕ → ℕ
turn l p = get_or l.order p 0

-- The table after the first p positions of the order, where a turn earns what pay says.
abbrev pub table_at : (ℕ → ℕ) → Bool → Lent → Sets → ℕ → Table
table_at pay b l k p = stage b l.chain k pay l.order p

-- A row has a total above M, or a Reward above M.
abbrev pub Large : ℕ → Row → Type 0
Large n r = (M < total n r) ⊎ (M < reward n r)

-- No fit: in the exact engine a kept row of the table, which is in lowest terms, is large.
abbrev pub Unfit : Bool → ℕ → Table → Type 0
Unfit b n t = (b ≡ exact) × ((i : ℕ) × ((i < n) × Large n (row t i)))

-- After the first p positions of the order a row does not fit.
abbrev pub NoFit : (ℕ → ℕ) → Bool → Lent → Sets → ℕ → Type 0
NoFit pay b l k p = Unfit b l.chain.states (table_at pay b l k p)

-- Nothing stopped the elimination up to the first p positions.
abbrev pub Passed : (ℕ → ℕ) → Bool → Lent → Sets → ℕ → Type 0
Passed pay b l k p = (q : ℕ) → q ≤ p → NoFit pay b l k q → ⊥

-- What stops the elimination first: 12 where a row does not fit, at the position of the step, or at 64 before the first step.
pub data Stops (pay : ℕ → ℕ) (b : Bool) (l : Lent) (k : Sets) : ℕ → ℕ → Type 0 where
  before_steps : NoFit pay b l k 0 → Stops pay b l k 12 most_states
  in_step : (p : ℕ) → p < l.chain.states → Passed pay b l k p → NoFit pay b l k (suc p) → Stops pay b l k 12 p

-- What stops an engine, with the chain's own sets. With the start a goal or not live no row is made, and nothing stops.
pub record Stopped (pay : ℕ → ℕ) (b : Bool) (l : Lent) (number place : ℕ) : Type 0 where
  pub sets : Sets
  pub right : Right l.chain sets
  pub alive : Live l.chain l.chain.start
  pub stops : Stops pay b l sets number place
