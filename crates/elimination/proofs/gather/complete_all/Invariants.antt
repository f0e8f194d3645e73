use lib.ListN.{get_or}
use Rattle.elimination.proofs.Cells.{Gathering}
use Rattle.elimination.proofs.Missing.{completes}
use Rattle.elimination.proofs.gather.complete_all.Given as goal

abbrev pub invariant-loop-i : goal.invariant-loop-i
invariant-loop-i l = Gathering l.n (completes l.n l.live (λ i. get_or l.left i 0)) l.n l.initial.work l.i l.work
