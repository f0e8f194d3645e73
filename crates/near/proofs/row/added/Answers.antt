use Rattle.std.proofs.Common.{arith, rules}
use Rattle.meaning.specs.Number.{sum_to}
use Rattle.near.proofs.Gaps.{sum_flat}
use Rattle.near.proofs.row.added.Goals as goal

pub added_on-t-requires : goal.added_on-t-requires
unfolding sum_to
added_on-t-requires c = search rules

pub added_on-requires : goal.added_on-requires
added_on-requires c =
    let h = c.requires in
    let z = c.added_on-t.ensures in
    record { from_le_to = (h.within.0.1, omega arith, h.shape.0, h.shape.1); sum_so_far = (omega (arith, sum_flat h.within.1 h.within.0.0 c.args.k, z.0), omega (arith, z.1, h.within.0.0)) }
