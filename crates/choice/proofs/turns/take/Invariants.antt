use Prim.Native.Nat.{◌-◌}
use Rattle.meaning.specs.Chain.{Chain}
use Rattle.meaning.specs.Step.{Sets}
use Rattle.choice.specs.Turns.{Ready}
use Rattle.choice.proofs.Turning.{Turning}
use Rattle.choice.proofs.turns.take.Given as goal

abbrev pub invariant-loop-left : goal.invariant-loop-left
invariant-loop-left l =
    (c : Chain) (k : Sets) → Ready c k l.n l.going l.initial.columns l.initial.order → Turning c k l.n l.count l.left l.sum l.columns l.order

abbrev pub decreases-loop-left : goal.decreases-loop-left
decreases-loop-left l = l.n - l.count
