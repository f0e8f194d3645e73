-- The numbers of refusal 1 to 11: when each is given, and at which place.
use Rattle.std.specs.Prelude.{ℕ, ◌+◌, ◌*◌, ◌/◌, ◌%◌, ◌^◌, ◌≤◌, ◌<◌, ◌≡◌, ◌⊎◌, Bool, true, false, List, [], ◌∷◌, length, get_or, replicate}
use Rattle.meaning.specs.Number.{only}
use Rattle.meaning.specs.Chain.{
  most_states,
  most_edges,
  M,
  most_reward,
  Chain,
  edge_size,
  edge_count,
  from,
  to,
  weight,
  edge_reward,
  row_sum,
}
use Rattle.meaning.specs.Row.{width}

-- What an entry is lent. A table that an entry is not lent is empty here. `work` is the table that it writes: its work table, or the
-- writer's buffer. Of a step list it counts here only how many records it has.
pub record Lent : Type 0 where
  pub chain : Chain
  pub order : List ℕ
  pub rewards : List ℕ
  pub work : List ℕ
  pub list : ℕ

-- The same with a step list of so many records.
abbrev pub with_list : ℕ → Lent → Lent
with_list list l = record { chain = l.chain; order = l.order; rewards = l.rewards; work = l.work; list = list }

-- How many numbers of the work table an elimination needs.
abbrev pub work_size : ℕ → ℕ
work_size n = n * width n

-- What is lent by a caller who lends a chain alone.
abbrev pub chain_alone : Chain → Lent
chain_alone chain = record { chain = chain; order = []; rewards = []; work = []; list = 0 }

-- What is lent by a function whose work table is its own and holds zeros.
abbrev pub own_work : Chain → List ℕ → List ℕ → Lent
own_work chain order rewards =
    record { chain = chain; order = order; rewards = rewards; work = replicate (work_size most_states) 0; list = 0 }

-- What an entry asks decides which numbers it can give: which tables it is lent, whether rows may fall short, the least number of edges, how
-- long the table has to be that it writes, for so many states and edges, and how many records its step list has to have, for so many states.
pub record Entry : Type 0 where
  pub order : Bool
  pub rewards : Bool
  pub short : Bool
  pub fewest : ℕ
  pub room : ℕ → ℕ → ℕ
  pub records : ℕ → ℕ

-- An entry that eliminates is lent an order and a work table, rewards or not, a step list of n records or more or none; and its rows may fall
-- short or not.
abbrev pub eliminating : Bool → Bool → Bool → Entry
eliminating rewards list short =
    record { order = true; rewards = rewards; short = short; fewest = 0; room = λ n _. work_size n; records = only list }

-- The entries for the chance and for the bounds: numbers 1 to 10.
abbrev pub plain : Entry
plain = eliminating false false false

-- The entry for the expected reward: numbers 1 to 11.
abbrev pub paid : Entry
paid = eliminating true false false

-- An entry that is lent a chain alone, whose rows may fall short or not: numbers 1 and 3 to 9.
abbrev pub bare_of : Bool → Entry
bare_of short = record { order = false; rewards = false; short = short; fewest = 0; room = λ _ _. 0; records = λ _. 0 }

abbrev pub bare : Entry
bare = bare_of false

-- The companion of the entry for the chance, which is lent a step list of n records or more: numbers 1 to 10.
abbrev pub listing : Entry
listing = eliminating false true false

-- 1: n is not 1 to 64; a table length is other than n, or than 0 where the entry is not lent that table; numbers are left over past
-- the last whole edge; over 4,096 edges, or fewer than the entry asks for.
pub data Misshaped (x : Entry) (states denominators edges order rewards : ℕ) : Type 0 where
  no_states : states ≡ 0 → Misshaped x states denominators edges order rewards
  many_states : most_states < states → Misshaped x states denominators edges order rewards
  denominators_length : (denominators ≡ states → ⊥) → Misshaped x states denominators edges order rewards
  edges_ragged : (edges % edge_size ≡ 0 → ⊥) → Misshaped x states denominators edges order rewards
  many_edges : most_edges < edges / edge_size → Misshaped x states denominators edges order rewards
  few_edges : edges / edge_size < x.fewest → Misshaped x states denominators edges order rewards
  order_length : (order ≡ only x.order states → ⊥) → Misshaped x states denominators edges order rewards
  rewards_length : (rewards ≡ only x.rewards states → ⊥) → Misshaped x states denominators edges order rewards

-- 2: the table that the entry writes is too short, or its step list has too few records.
abbrev pub RoomFault : Entry → ℕ → ℕ → ℕ → ℕ → Type 0
RoomFault x states edges work list = (work < x.room states edges) ⊎ (list < x.records states)

-- 4: the goal set is empty, or holds a number not below n.
abbrev pub GoalFault : ℕ → ℕ → Type 0
GoalFault n goals = (goals ≡ 0) ⊎ (2 ^ n ≤ goals)

-- x is not 1 to the limit.
abbrev pub Beyond : ℕ → ℕ → Type 0
Beyond limit x = (x ≡ 0) ⊎ (limit < x)

-- x is 0 or above M.
abbrev pub OutOfRange : ℕ → Type 0
OutOfRange x = Beyond M x

-- 5: the denominator of state i is 0 or above M.
abbrev pub DenominatorFault : ℕ → List ℕ → ℕ → Type 0
DenominatorFault n denominators i = (i < n) × OutOfRange (get_or denominators i 0)

-- 6: edge e names a state not below n.
abbrev pub EndFault : ℕ → List ℕ → ℕ → Type 0
EndFault n edges e = (e < edge_count edges) × ((n ≤ from edges e) ⊎ (n ≤ to edges e))

-- 7: the weight of edge e is 0 or above M.
abbrev pub WeightFault : List ℕ → ℕ → Type 0
WeightFault edges e = (e < edge_count edges) × OutOfRange (weight edges e)

-- Edges d and e have the same pair (from, to).
abbrev pub Same : List ℕ → ℕ → ℕ → Type 0
Same edges d e = (from edges d ≡ from edges e) × (to edges d ≡ to edges e)

-- 8: the pair of edge e was given before.
abbrev pub PairFault : List ℕ → ℕ → Type 0
PairFault edges e = (e < edge_count edges) × ((d : ℕ) × ((d < e) × Same edges d e))

-- A row sum differs from its denominator or, where rows may fall short, exceeds it.
abbrev pub WrongSum : Bool → ℕ → ℕ → Type 0
WrongSum false sum denominator = sum ≡ denominator → ⊥
WrongSum true sum denominator = denominator < sum

-- 9: the row sum of state i is wrong.
abbrev pub SumFault : Bool → ℕ → List ℕ → List ℕ → ℕ → Type 0
SumFault short n denominators edges i = (i < n) × WrongSum short (row_sum edges i) (get_or denominators i 0)

-- The state at position p of the order was seen before.
abbrev pub Earlier : List ℕ → ℕ → Type 0
Earlier order p = (o : ℕ) × ((o < p) × (get_or order o 0 ≡ get_or order p 0))

-- 10: the order's entry at p is not below n, or was seen before.
abbrev pub OrderFault : ℕ → List ℕ → ℕ → Type 0
OrderFault n order p = (p < n) × ((n ≤ get_or order p 0) ⊎ Earlier order p)

-- The reward of state i is above 65,535; that of edge e is.
abbrev pub StateRewardFault : ℕ → List ℕ → ℕ → Type 0
StateRewardFault n rewards i = (i < n) × (most_reward < get_or rewards i 0)

abbrev pub EdgeRewardFault : List ℕ → ℕ → Type 0
EdgeRewardFault edges e = (e < edge_count edges) × (most_reward < edge_reward edges e)

-- 11: the reward of a state is too large, at the state; or that of an edge, at 64 plus its index.
pub data RewardFault (n : ℕ) (rewards edges : List ℕ) : ℕ → Type 0 where
  of_state : (i : ℕ) → StateRewardFault n rewards i → RewardFault n rewards edges i
  of_edge : (e : ℕ) → EdgeRewardFault edges e → RewardFault n rewards edges (most_states + e)

-- A fault of the whole has place 0.
abbrev pub whole : Type 0 → ℕ → Type 0
whole F p = (p ≡ 0) × F

-- No fault, at any place.
abbrev pub never : ℕ → Type 0
never p = ⊥

-- A fault of a table that the entry may not be lent.
abbrev pub lent_fault : Bool → (ℕ → Type 0) → ℕ → Type 0
lent_fault true F = F
lent_fault false F = never

-- The faults in the order of their numbers, from 0, which is no refusal.
abbrev pub faults : Entry → Lent → List (ℕ → Type 0)
faults x l =
    let c = l.chain in
    never
    ∷ whole
    (Misshaped x c.states (length c.denominators) (length c.edges) (length l.order) (length l.rewards))
    ∷ whole (RoomFault x c.states (edge_count c.edges) (length l.work) l.list)
    ∷ whole (c.states ≤ c.start)
    ∷ whole (GoalFault c.states c.goals)
    ∷ DenominatorFault c.states c.denominators
    ∷ EndFault c.states c.edges
    ∷ WeightFault c.edges
    ∷ PairFault c.edges
    ∷ SumFault x.short c.states c.denominators c.edges
    ∷ lent_fault x.order (OrderFault c.states l.order)
    ∷ lent_fault x.rewards (RewardFault c.states l.rewards c.edges)
    ∷ []

-- Number k applies at place p.
abbrev pub Applies : Entry → Lent → ℕ → ℕ → Type 0
Applies x l k p = get_or (faults x l) k never p

-- The least number that applies is given, with its least place.
pub record Refused (x : Entry) (l : Lent) (number place : ℕ) : Type 0 where
  pub applies : Applies x l number place
  pub number_least : (k p : ℕ) → k < number → Applies x l k p → ⊥
  pub place_least : (p : ℕ) → p < place → Applies x l number p → ⊥

-- No number applies anywhere.
pub record WellFormed (x : Entry) (l : Lent) : Type 0 where
  pub none : (k p : ℕ) → Applies x l k p → ⊥

-- What a looking answers: a refusal's number and place, or 0 and 0 where no number applies.
pub record Finding : Type 0 where
  pub number : ℕ
  pub place : ℕ

abbrev pub finding : ℕ → ℕ → Finding
finding number place = record { number = number; place = place }

pub data LookOutcome (x : Entry) (l : Lent) (a : Finding) : Type 0 where
  refused : (number place : ℕ) → Refused x l number place → a ≡ finding number place → LookOutcome x l a
  formed : WellFormed x l → a ≡ finding 0 0 → LookOutcome x l a
