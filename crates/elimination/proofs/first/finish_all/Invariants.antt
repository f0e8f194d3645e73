use Rattle.elimination.specs.First.{finished_at}
use Rattle.elimination.proofs.Removal.{Renewing}
use Rattle.elimination.proofs.first.finish_all.Given as goal

abbrev pub invariant-loop-i : goal.invariant-loop-i
invariant-loop-i l = Renewing l.rounding (finished_at l.rounding l.n l.live l.pay l.initial.work) l.n l.initial.work l.i l.work
