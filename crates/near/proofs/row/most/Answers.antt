use Rattle.std.proofs.Common.{arith, rules}
use Rattle.meaning.specs.Near.{longest}
use Rattle.near.proofs.Gaps.{longest_flat}
use Rattle.near.proofs.row.most.Goals as goal

pub most_on-m-requires : goal.most_on-m-requires
unfolding longest
most_on-m-requires c = search rules

pub most_on-requires : goal.most_on-requires
most_on-requires c =
    let h = c.requires in
    (h.0.1, omega arith, omega (arith, longest_flat h.1 h.0.0, c.most_on-m.ensures.0), c.most_on-m.ensures.1)
