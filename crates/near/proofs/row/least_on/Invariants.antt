use Rattle.std.proofs.Common.{◌≡◌, get_or}
use Rattle.near.specs.Row.{least_exponent}
use Rattle.near.proofs.row.least_on.Given as goal

abbrev pub invariant-loop-j : goal.invariant-loop-j
invariant-loop-j l = (l.least ≡ least_exponent (λ i. get_or l.row i 0) l.j)
