use Rattle.chainfile.proofs.Saving.{Looked}
use Rattle.chainfile.proofs.lost.verdicts.Given as goal

abbrev pub invariant-loop-b : goal.invariant-loop-b
invariant-loop-b l = Looked l.kept l.b l.lost
