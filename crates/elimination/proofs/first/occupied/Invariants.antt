use lib.ListN.{length}
use Rattle.meaning.specs.Row.{cell}
use Rattle.elimination.proofs.Fill.{Marked}
use Rattle.elimination.proofs.first.occupied.Given as goal

abbrev pub invariant-loop-j : goal.invariant-loop-j
invariant-loop-j l = Marked (cell l.columns) (length l.columns) l.j l.targets
