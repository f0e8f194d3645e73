use Prim.Native.Nat.{ℕ, ◌*◌}
use mathlib.Core.List.{List}
use Rattle.meaning.specs.Chain.{M, most_reward, weight, edge_reward}
use Rattle.look.proofs.Gather.{Summed}
use Rattle.elimination.proofs.pay.of_edges.Given as goal

-- An edge brings its weight times its reward.
abbrev pub worth : List ℕ → ℕ → ℕ
worth edges e = weight edges e * edge_reward edges e

abbrev pub each : ℕ
each = M * most_reward

abbrev pub invariant-loop-e : goal.invariant-loop-e
invariant-loop-e l = Summed l.edges (worth l.edges) each l.sums l.e
