use Rattle.std.proofs.Common.{◌≡◌, ◌*◌, ◌/◌, ◌^◌, ◌≤◌}
use Rattle.meaning.specs.Number.{sum_to}
use Rattle.near.specs.Row.{value_at}
use Rattle.near.proofs.row.added_on.Given as goal

abbrev pub invariant-loop-j : goal.invariant-loop-j
invariant-loop-j l = (l.sum ≡ sum_to (λ i. value_at l.row i / 2 ^ l.k) l.j) × (l.sum ≤ l.j * 2 ^ 56)
