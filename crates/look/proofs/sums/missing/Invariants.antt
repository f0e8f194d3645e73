use Rattle.look.proofs.Lacking.{Lacking}
use Rattle.look.proofs.sums.missing.Given as goal

abbrev pub invariant-loop-e : goal.invariant-loop-e
invariant-loop-e l = Lacking l.denominators l.edges l.left l.e
