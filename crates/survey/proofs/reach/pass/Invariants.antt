use Rattle.survey.specs.Grow.{way, Larger}
use Rattle.survey.proofs.Growth.{Past}
use Rattle.survey.proofs.reach.pass.Given as goal

abbrev pub invariant-loop-e : goal.invariant-loop-e
invariant-loop-e l = let w = way l.back l.barrier l.edges in Larger w (Past w l.count l.e) l.set l.larger
