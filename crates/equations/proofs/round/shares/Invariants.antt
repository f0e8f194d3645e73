use lib.ListN.{replicate}
use Rattle.meaning.specs.Chain.{most_states}
use Rattle.theory.specs.Numbers.Walk.{Walked}
use Rattle.equations.specs.Divide.{gets}
use Rattle.equations.proofs.round.shares.Given as goal

abbrev pub invariant-loop-i : goal.invariant-loop-i
invariant-loop-i l = Walked (gets l.goals l.denominators l.carried) (replicate most_states 0) l.i l.values
