use Rattle.std.proofs.Common.{get_or}
use Rattle.near.specs.Row.{less_by}
use Rattle.near.specs.Gap.{Spanned}
use Rattle.near.proofs.row.lower_on.Given as goal

abbrev pub invariant-loop-j : goal.invariant-loop-j
invariant-loop-j l = Spanned (λ i. less_by l.k (get_or l.initial.row i 0)) l.from l.j l.initial.row l.row
