-- What is answered where the index of a kept edge is asked for.
use Rattle.std.specs.Prelude.{ℕ, ◌≡◌}
use Rattle.meaning.specs.Block.{Input, head_edges}
use Rattle.meaning.specs.Salvage.{IndexOf}

-- The index of the kept edge j in the whole file, or the file's number of edges where there is no such edge.
pub data Whole (f : Input) (v : ℕ → ℕ) (j r : ℕ) : Type 0 where
  found : IndexOf f v j r → Whole f v j r
  nowhere : ((e : ℕ) → IndexOf f v j e → ⊥) → r ≡ head_edges f → Whole f v j r
