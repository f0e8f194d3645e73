-- The parts of a flat table, and what they hold.
use Rattle.std.specs.Prelude.{ℕ, ◌*◌, ◌≤◌, ◌≡◌, List, [], take, drop, ltb, Result, Ok, Err}
use Rattle.meaning.specs.Number.{choose}
use Rattle.meaning.specs.Chain.{most_states, most_edges, edge_size, edge_count}
use Rattle.meaning.specs.Refusal.{own_work}
use Rattle.meaning.specs.Block.{Input, head_edges}
use Rattle.meaning.specs.File.{FileRefused, Accepted, paid_in}
use Rattle.chain.specs.declared.Chain.{Chain as Frame}
use Rattle.chain.specs.Lent.{lent}
use Rattle.opening.specs.Sizes.{edges_at}
use Rattle.chain.specs.Refusal.{number_of}
use Rattle.chain.specs.declared.refusal.Refusal.{Refusal}
use Rattle.chainfile.specs.declared.Book.{Book}

abbrev pub denominators_of : Book → List ℕ → List ℕ
denominators_of b table = take b.chain.states (drop 0 table)

abbrev pub order_of : Book → List ℕ → List ℕ
order_of b table = take b.chain.states (drop most_states table)

abbrev pub rewards_of : Book → List ℕ → List ℕ
rewards_of b table = take b.chain.states (drop (2 * most_states) table)

-- None where the table has not so many.
abbrev pub edges_of : Book → List ℕ → List ℕ
edges_of b table =
    let rest = drop edges_at table in choose (ltb (edge_count rest) b.edges) [] (take (edge_size * b.edges) rest)

-- The input is accepted, and these are its chain and tables.
pub record Holds (f : Input) (c : Frame) (denominators edges order rewards : List ℕ) : Type 0 where
  pub accepted : Accepted f
  pub paid : own_work (lent c denominators edges [] [] []).chain order rewards ≡ paid_in f

-- A table holds the chain of the input, which is no larger than a chain may be.
pub record Held (f : Input) (b : Book) (table : List ℕ) : Type 0 where
  pub few_states : b.chain.states ≤ most_states
  pub few_edges : b.edges ≤ most_edges
  pub count : b.edges ≡ head_edges f
  pub holds : Holds f b.chain (denominators_of b table) (edges_of b table) (order_of b table) (rewards_of b table)

-- What is opened is what the file holds.
pub record Opened (f : Input) (r : Result Book Refusal) (table : List ℕ) : Type 0 where
  pub refused : {x : Refusal} → r ≡ Err x → FileRefused f (number_of x.fault) x.place
  pub held : {b : Book} → r ≡ Ok b → Held f b table
