use Prim.Native.Nat.{◌+◌}
use Rattle.elimination.specs.Packed.{weights_at}
use Rattle.elimination.proofs.Along.{Spreading}
use Rattle.elimination.proofs.part.spread.Given as goal

abbrev pub invariant-loop-k : goal.invariant-loop-k
invariant-loop-k l = Spreading l.part l.k-iterator.iter.0 (weights_at + l.k-iterator.count) l.wide
