-- An input from what is kept of it.
use Rattle.std.specs.Prelude.{ℕ, List}
use Rattle.meaning.specs.Block.{Input}

abbrev pub input : List ℕ → ℕ → Input
input kept more = record { kept = kept; more = more }
