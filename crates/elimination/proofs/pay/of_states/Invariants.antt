use mathlib.Core.Bool.{true}
use Rattle.elimination.specs.Pay.{pays, earning}
use Rattle.theory.specs.Numbers.Walk.{Walked}
use Rattle.elimination.proofs.pay.of_states.Given as goal

abbrev pub invariant-loop-i : goal.invariant-loop-i
invariant-loop-i l = Walked (pays true (earning l.denominators l.edges) l.rewards) l.initial.sum-items l.i l.sum-items
