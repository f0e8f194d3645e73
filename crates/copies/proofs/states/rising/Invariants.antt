use Prim.Native.Nat.{◌-◌}
use Rattle.copies.proofs.Growing.{Filled}
use Rattle.copies.proofs.states.rising.Given as goal

abbrev pub invariant-loop-k : goal.invariant-loop-k
invariant-loop-k l = Filled (λ i. i) l.initial.table l.states l.table l.k
