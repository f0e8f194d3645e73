-- How long a flat table is.
use Rattle.std.specs.Prelude.{ℕ, ◌+◌, ◌*◌, ◌≤◌, ◌<◌}
use Rattle.meaning.specs.Chain.{most_states, most_edges, edge_size}
use Rattle.meaning.specs.Block.{Input, input_length, block_size, full_block, head_edges}
use Rattle.meaning.specs.File.{Accepted}

-- Where the edges begin.
abbrev pub edges_at : ℕ
edges_at = 3 * most_states

abbrev pub largest_table : ℕ
largest_table = edges_at + edge_size * most_edges

abbrev pub small_table : ℕ
small_table = edges_at + edge_size * (6 * full_block)

-- A file of more than eight blocks.
abbrev pub Long : Input → Type 0
Long f = 8 * block_size < input_length f

-- A table of so many numbers has room for what the file may have.
pub record Fits (f : Input) (size : ℕ) : Type 0 where
  pub states : edges_at ≤ size
  pub edges : Accepted f → edges_at + edge_size * head_edges f ≤ size
