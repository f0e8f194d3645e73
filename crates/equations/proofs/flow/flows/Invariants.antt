use Prim.Native.Nat.{ℕ, ◌*◌, ◌^◌}
use mathlib.Core.List.{List}
use Rattle.meaning.specs.Chain.{to, weight}
use Rattle.look.proofs.Gather.{Summed}
use Rattle.equations.specs.Carry.{value_in}
use Rattle.equations.proofs.flow.flows.Given as goal

-- An edge brings its weight times the value of its target.
abbrev pub worth : List ℕ → List ℕ → ℕ → ℕ
worth edges values e = weight edges e * value_in values (to edges e)

abbrev pub invariant-loop-e : goal.invariant-loop-e
invariant-loop-e l = Summed l.edges (worth l.edges l.values) (2 ^ 64) l.sums l.e
