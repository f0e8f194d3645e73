use Prim.Native.Nat.{◌-◌}
use lib.ListN.{length}
use Rattle.chaintext.specs.Turns.{tables}
use Rattle.chaintext.proofs.Finishing.{Progress}
use Rattle.chaintext.proofs.read.read.Given as goal

abbrev pub invariant-loop-at : goal.invariant-loop-at
invariant-loop-at l = Progress l.text l.number l.at l.turn l.held (tables l.denominators l.edges l.order l.rewards)

abbrev pub decreases-loop-at : goal.decreases-loop-at
decreases-loop-at l = length l.text - l.at
