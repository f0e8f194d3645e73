use Prim.Native.Nat.{◌/◌}
use lib.ListN.{get_or}
use Rattle.theory.specs.Numbers.Walk.{Walked}
use Rattle.chain.proofs.divisor.quotients.Given as goal

abbrev pub invariant-loop-x : goal.invariant-loop-x
invariant-loop-x l = Walked (λ k. get_or l.initial.row k 0 / l.d) l.initial.row l.x-index l.row
