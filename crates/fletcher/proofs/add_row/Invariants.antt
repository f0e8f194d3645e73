use Rattle.fletcher.proofs.Columns.{Adding}
use Rattle.fletcher.proofs.add_row.Given as goal

abbrev pub invariant-loop-c : goal.invariant-loop-c
invariant-loop-c l = Adding l.row l.initial.plain l.initial.sums l.c l.plain l.sums
