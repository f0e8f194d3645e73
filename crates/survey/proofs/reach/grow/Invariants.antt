use Prim.Native.Nat.{◌-◌}
use Rattle.survey.specs.Grow.{way, AllIdle, Larger}
use Rattle.meaning.specs.Chain.{edge_count}
use Rattle.survey.proofs.reach.grow.Given as goal

abbrev pub invariant-loop-set : goal.invariant-loop-set
invariant-loop-set l = let w = way l.back l.barrier l.edges in Larger w (λ _. Unit {0}) l.seed l.set × Larger w (AllIdle w (edge_count l.edges)) l.set l.larger

abbrev pub decreases-loop-set : goal.decreases-loop-set
decreases-loop-set l = 18446744073709551616 - l.set
