-- What the pass over the edges asks and gives.
use Rattle.std.specs.Prelude.{ℕ, ◌^◌, ◌<◌, ◌≡◌, List, get_or}
use Rattle.meaning.specs.Chain.{most_states, edge_count, from, flow}
use Rattle.meaning.specs.Refusal.{EndFault}

-- The value of each state in a table, 0 past its end.
abbrev pub value_in : List ℕ → ℕ → ℕ
value_in values t = get_or values t 0

-- The edges join states, and the sum of no state that an edge leaves outgrows 64 bits.
pub record Carries (edges values : List ℕ) : Type 0 where
  pub ends : (e : ℕ) → EndFault most_states edges e → ⊥
  pub fits : (e : ℕ) → e < edge_count edges → flow edges (from edges e) (value_in values) < 2 ^ 64

-- The sum of weight times value, for each state over the edges that leave it.
pub record Flows (edges values sums : List ℕ) : Type 0 where
  pub is : (i : ℕ) → i < most_states → get_or sums i 0 ≡ flow edges i (value_in values)
