use Prim.Native.Nat.{◌+◌, ◌-◌}
use Rattle.meaning.specs.Chain.{plain_edge}
use Rattle.copies.proofs.Growing.{Rungs}
use Rattle.copies.proofs.edges.rebuilds.Given as goal

abbrev pub invariant-loop-i : goal.invariant-loop-i
invariant-loop-i l = Rungs (λ k. plain_edge k (k + 1) l.rebuild) l.initial.edges l.at l.most l.edges l.next l.i
