use Rattle.std.proofs.Common.{◌≡◌, ◌^◌, ◌<◌}
use Rattle.meaning.specs.Near.{longest}
use Rattle.near.specs.Row.{value_at}
use Rattle.near.proofs.row.most_on.Given as goal

abbrev pub invariant-loop-j : goal.invariant-loop-j
invariant-loop-j l = (l.most ≡ longest (value_at l.row) l.j) × (l.most < 2 ^ 34)
