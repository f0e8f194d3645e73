use Rattle.std.proofs.Common.{ℕ, ◌<◌}
use Rattle.meaning.specs.File.{BlockRight}
use Rattle.octets.specs.Input.{input}
use Rattle.judge.proofs.further.Given as goal

abbrev pub invariant-loop-b : goal.invariant-loop-b
invariant-loop-b l = (a : ℕ) → 0 < a → a < l.b-counter → (more : ℕ) → BlockRight (input l.kept more) a
