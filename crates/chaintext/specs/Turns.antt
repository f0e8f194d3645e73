-- The lines of a chain text in their turns.
use Rattle.std.specs.Prelude.{ℕ, ◌*◌, ◌^◌, ◌≤◌, ◌<◌, ◌≡◌, List, [], ◌∷◌, ◌++◌, length, get_or, take, Option, Some, None}
use Rattle.meaning.specs.Chain.{most_states, most_edges, most_reward, edge_size, from, to, weight, edge_reward}
use Rattle.meaning.specs.Refusal.{Lent}
use Rattle.meaning.specs.File.{Tables}
use Rattle.meaning.specs.ChainText.{Begins}
use Rattle.theory.specs.Texts.Turns.{states_line, edges_line, to_state, to_edge}
use Rattle.chaintext.specs.Lines.{EdgeFits}
use Rattle.chaintext.specs.declared.turns.Turn.{Turn}
use Rattle.chaintext.specs.declared.turns.Turn.TheVariants.{States, Edges, Start, State, Edge}
use Rattle.chaintext.specs.declared.turns.Held.{Held}

abbrev pub tables : List ℕ → List ℕ → List ℕ → List ℕ → Tables
tables denominators edges order rewards = record { denominators = denominators; edges = edges; order = order; rewards = rewards }

-- The chain that is held, with its tables.
abbrev pub held_lent : Held → Tables → Lent
held_lent h t =
    record {
      chain = record {
        states = h.states;
        start = h.start;
        goals = h.goals;
        denominators = take h.states t.denominators;
        edges = take (edge_size * h.edges) t.edges;
      };
      order = take h.states t.order;
      rewards = take h.states t.rewards;
      work = [];
      list = 0;
    }

-- The tables have the largest chain's size, and every number in them is in the range of its field.
pub record Cells (t : Tables) : Type 0 where
  pub denominators_long : length t.denominators ≡ most_states
  pub edges_long : length t.edges ≡ edge_size * most_edges
  pub order_long : length t.order ≡ most_states
  pub rewards_long : length t.rewards ≡ most_states
  pub denominators_fit : (i : ℕ) → get_or t.denominators i 0 < 2 ^ 32
  pub order_fits : (p : ℕ) → get_or t.order p 0 < 256
  pub rewards_fit : (i : ℕ) → get_or t.rewards i 0 ≤ most_reward
  pub edges_fit : (e : ℕ) → EdgeFits (from t.edges e) (to t.edges e) (weight t.edges e) (edge_reward t.edges e)

-- Of the goals those are held whose states have come.
abbrev pub turn_fits : Turn → Held → Type 0
turn_fits States h = h.goals ≡ 0
turn_fits Edges h = h.goals ≡ 0
turn_fits Start h = h.goals ≡ 0
turn_fits (State i) h = (i ≤ h.states) × (h.goals < 2 ^ i)
turn_fits (Edge e) h = (e ≤ h.edges) × (h.goals < 2 ^ h.states)

pub record Ready (turn : Turn) (h : Held) (t : Tables) : Type 0 where
  pub cells : Cells t
  pub some_states : 1 ≤ h.states
  pub few_states : h.states ≤ most_states
  pub some_edges : 1 ≤ h.edges
  pub few_edges : h.edges ≤ most_edges
  pub start_fits : h.start < 256
  pub turn_fits_lem : turn_fits turn h

-- The lines that have come.
abbrev pub so_far : Turn → Lent → List (List ℕ)
so_far States l = []
so_far Edges l = states_line l ∷ []
so_far Start l = states_line l ∷ edges_line l ∷ []
so_far (State i) l = to_state l i
so_far (Edge e) l = to_edge l e

-- A line is added to them, or no chain's lines begin with them and the line.
pub record Stepped (turn : Turn) (h : Held) (t : Tables) (line : List ℕ) (turn' : Turn) (h' : Held) (t' : Tables) : Type 0 where
  pub ready : Ready turn' h' t'
  pub lines : so_far turn' (held_lent h' t') ≡ so_far turn (held_lent h t) ++ (line ∷ [])

abbrev pub taken : Turn → Held → Tables → List ℕ → Tables → Option (Turn × Held) → Type 0
taken turn h t line t' (Some p) = Stepped turn h t line p.0 p.1 t'
taken turn h t line t' None = Begins (so_far turn (held_lent h t) ++ (line ∷ [])) → ⊥

pub record TakenAs (turn : Turn) (h : Held) (t : Tables) (line : List ℕ) (t' : Tables) (r : Option (Turn × Held)) : Type 0 where
  pub told : taken turn h t line t' r
