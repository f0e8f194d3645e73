use Rattle.std.proofs.Common.{arith, rules}
use Rattle.near.specs.Row.{least_exponent}
use Rattle.near.proofs.Gaps.{least_flat}
use Rattle.near.proofs.row.least.Goals as goal

pub least_on-k-requires : goal.least_on-k-requires
unfolding least_exponent
least_on-k-requires c = search rules

pub least_on-requires : goal.least_on-requires
least_on-requires c =
    let h = c.requires in
    (h.0.1, omega arith, omega (arith, least_flat h.1 h.0.0, c.least_on-k.ensures))
