use Rattle.choice.proofs.Weights.{Passing}
use Rattle.choice.proofs.columns.remove.Given as goal

abbrev pub invariant-loop-column : goal.invariant-loop-column
invariant-loop-column l = Passing l.column-index l.from l.s l.initial.column-items l.column-items
