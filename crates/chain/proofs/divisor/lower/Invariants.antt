use Prim.Native.Nat.{◌/◌, ◌^◌}
use lib.ListN.{get_or}
use Rattle.theory.specs.Numbers.Walk.{Walked}
use Rattle.chain.proofs.divisor.lower.Given as goal

abbrev pub invariant-loop-x : goal.invariant-loop-x
invariant-loop-x l = Walked (λ i. get_or l.initial.row i 0 / 2 ^ l.k) l.initial.row l.x-index l.row
