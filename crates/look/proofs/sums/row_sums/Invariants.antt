use Rattle.std.proofs.Common.{ℕ, ◌*◌, List}
use Rattle.meaning.specs.Chain.{M, weight}
use Rattle.look.proofs.Gather.{Summed}
use Rattle.look.proofs.sums.row_sums.Given as goal

-- An edge brings its weight.
abbrev pub worth : List ℕ → ℕ → ℕ
worth edges e = weight edges e * 1

abbrev pub invariant-loop-e : goal.invariant-loop-e
invariant-loop-e l = Summed l.edges (worth l.edges) M l.sums l.e
