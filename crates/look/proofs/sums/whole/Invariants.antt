use Rattle.std.proofs.Common.{get_or, replicate}
use Rattle.meaning.specs.Chain.{most_states}
use Rattle.theory.specs.Numbers.Walk.{Walked}
use Rattle.look.proofs.sums.whole.Given as goal

abbrev pub invariant-loop-i : goal.invariant-loop-i
invariant-loop-i l = Walked (λ j. get_or l.denominators j 0) (replicate most_states 0) l.i l.x-items
