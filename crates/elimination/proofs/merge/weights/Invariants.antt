use Rattle.elimination.specs.Filled.{blend}
use Rattle.elimination.proofs.Along.{Written}
use Rattle.elimination.proofs.merge.weights.Given as goal

abbrev pub invariant-loop-j : goal.invariant-loop-j
invariant-loop-j l = Written (blend l.s l.d l.w l.x l.y) l.all l.initial.part l.part l.j-iterator.0 l.targets l.k
