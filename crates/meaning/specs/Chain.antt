-- The chain: its limits, its states and edges, and the paths along them.
use Rattle.std.specs.Prelude.{ℕ, ◌+◌, ◌-◌, ◌*◌, ◌/◌, ◌%◌, ◌<◌, ◌≡◌, ◌⊎◌, Bool, true, false, List, [], ◌∷◌, length, get_or, eqb}
use Rattle.meaning.specs.Number.{sum_to, only, bit}

-- The greatest number of states.
abbrev pub most_states : ℕ
most_states = 64

-- The greatest number of edges.
abbrev pub most_edges : ℕ
most_edges = 4096

-- The greatest denominator, weight, row total and Reward.
abbrev pub M : ℕ
M = 2147483647

-- The greatest reward of a state, and of an edge.
abbrev pub most_reward : ℕ
most_reward = 65535

-- States are numbered from 0. Bit i of the goals says whether state i is one. A denominator for each state; the edges in one list.
pub record Chain : Type 0 where
  pub states : ℕ
  pub start : ℕ
  pub goals : ℕ
  pub denominators : List ℕ
  pub edges : List ℕ

-- The denominator of state i.
abbrev pub denominator : Chain → ℕ → ℕ
denominator c i = get_or c.denominators i 0

-- An edge is four numbers in a row: from, to, weight, reward.
abbrev pub edge_size : ℕ
edge_size = 4

abbrev pub edge : ℕ → ℕ → ℕ → ℕ → List ℕ
edge source target weight reward = source ∷ target ∷ weight ∷ reward ∷ []

-- An edge with no reward.
abbrev pub plain_edge : ℕ → ℕ → ℕ → List ℕ
plain_edge source target weight = edge source target weight 0

-- Number j of the list of edges whose edge e is edges e.
abbrev pub edge_number : (ℕ → List ℕ) → ℕ → ℕ
edge_number edges j = get_or (edges (j / edge_size)) (j % edge_size) 0

-- How many edges a list holds, and the numbers of edge e, counted from 0.
abbrev pub edge_count : List ℕ → ℕ
edge_count edges = length edges / edge_size

abbrev pub from : List ℕ → ℕ → ℕ
from edges e = get_or edges (edge_size * e) 0

abbrev pub to : List ℕ → ℕ → ℕ
to edges e = get_or edges (edge_size * e + 1) 0

abbrev pub weight : List ℕ → ℕ → ℕ
weight edges e = get_or edges (edge_size * e + 2) 0

abbrev pub edge_reward : List ℕ → ℕ → ℕ
edge_reward edges e = get_or edges (edge_size * e + 3) 0

-- What edge e carries from i: where e leaves i its weight times what f says of the target, else 0.
unfoldable pub carried : List ℕ → ℕ → (ℕ → ℕ) → ℕ → ℕ
carried edges i f e = only (eqb (from edges e) i) (weight edges e * f (to edges e))

-- The sum, over the edges that leave i, of weight times what f says of the target.
unfoldable pub flow : List ℕ → ℕ → (ℕ → ℕ) → ℕ
flow edges i f = sum_to (carried edges i f) (edge_count edges)

-- The same over the edges of a chain.
abbrev pub along : Chain → ℕ → (ℕ → ℕ) → ℕ
along c i f = flow c.edges i f

-- The sum of the weights of the edges that leave i.
abbrev pub row_sum : List ℕ → ℕ → ℕ
row_sum edges i = flow edges i (λ _. 1)

-- The sum, over the edges that leave i, of weight times the edge's reward.
unfoldable pub edge_rewards : List ℕ → ℕ → ℕ
edge_rewards edges i = sum_to (λ e. only (eqb (from edges e) i) (weight edges e * edge_reward edges e)) (edge_count edges)

-- State i is a goal: bit i of the goal set.
abbrev pub Goal : Chain → ℕ → Type 0
Goal c i = bit c.goals i ≡ 1

-- i has a path along the edges, of no or more steps, to an end.
pub data PathTo (edges : List ℕ) (End : ℕ → Type 0) : ℕ → Type 0 where
  here : (i : ℕ) → End i → PathTo edges End i
  step : (e : ℕ) → e < edge_count edges → PathTo edges End (to edges e) → PathTo edges End (from edges e)

-- The weight that is missing from the row of i: none in a well-formed chain, but where edges are lost rows may fall short (request 10).
abbrev pub missing : Chain → ℕ → ℕ
missing c i = denominator c i - row_sum c.edges i

-- Where a path ends: in a goal or, where rows may fall short, in a state whose row does.
abbrev pub End : Bool → Chain → ℕ → Type 0
End false c i = Goal c i
End true c i = Goal c i ⊎ (0 < missing c i)

-- i has a path to a goal.
abbrev pub ToGoal : Chain → ℕ → Type 0
ToGoal c i = PathTo c.edges (Goal c) i

-- i can be reached from the start, in no or more steps, without passing a goal.
pub data FromStart (c : Chain) : ℕ → Type 0 where
  begin : FromStart c c.start
  step : (e : ℕ) → e < edge_count c.edges → FromStart c (from c.edges e) → (Goal c (from c.edges e) → ⊥)
      → FromStart c (to c.edges e)

-- A state is live if it is no goal, can be reached from the start without passing a goal, and has a path to an end.
pub record LiveTo (c : Chain) (End : ℕ → Type 0) (i : ℕ) : Type 0 where
  pub unwon : Goal c i → ⊥
  pub reached : FromStart c i
  pub leads : PathTo c.edges End i

-- The ends are the goals: it has a path to a goal.
abbrev pub Live : Chain → ℕ → Type 0
Live c i = LiveTo c (Goal c) i
