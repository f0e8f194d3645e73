-- What a turn in each state earns, and what is asked to compute it.
use Rattle.std.specs.Prelude.{◌≡◌, Bool, List, ℕ, ◌^◌, ◌≤◌, ◌<◌, length, get_or}
use Rattle.meaning.specs.Number.{only}
use Rattle.meaning.specs.Chain.{most_states, most_edges, M, most_reward, Chain, edge_count, from, weight, edge_reward, edge_rewards}
use Rattle.meaning.specs.Figure.{earned}

-- What one turn in state i earns where the entry is lent rewards, times its denominator; else nothing.
abbrev pub pays : Bool → Chain → List ℕ → ℕ → ℕ
pays paid c rewards i = only paid (earned c (λ s. get_or rewards s 0) i)

-- A chain with these denominators and edges: of a chain nothing else counts for what a state earns.
abbrev pub earning : List ℕ → List ℕ → Chain
earning denominators edges =
    record { states = length denominators; start = 0; goals = 0; denominators = denominators; edges = edges }

-- Edges whose rewards can be summed.
pub record PayingEdges (edges : List ℕ) : Type 0 where
  pub few : edge_count edges ≤ most_edges
  pub sources : (e : ℕ) → e < edge_count edges → from edges e < most_states
  pub weights : (e : ℕ) → e < edge_count edges → weight edges e ≤ M
  pub rewards : (e : ℕ) → e < edge_count edges → edge_reward edges e ≤ most_reward

-- What the edges that leave each state pay. Each of at most 4,096 edges pays less than 2 ^ 47.
pub record EdgesPaid (edges sums : List ℕ) : Type 0 where
  pub size : length sums ≡ most_states
  pub is : (i : ℕ) → i < most_states → get_or sums i 0 ≡ edge_rewards edges i
  pub most : (i : ℕ) → i < most_states → get_or sums i 0 < 2 ^ 59

-- What n states earn can be computed.
pub record Earnable (n : ℕ) (denominators edges rewards : List ℕ) : Type 0 where
  pub few : n ≤ most_states
  pub small : (i : ℕ) → i < n → get_or denominators i 0 ≤ M
  pub states : (i : ℕ) → i < n → get_or rewards i 0 ≤ most_reward
  pub paying : PayingEdges edges
