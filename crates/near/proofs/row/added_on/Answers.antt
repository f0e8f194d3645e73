use Rattle.std.proofs.Common.{◌/◌, ◌^◌, length, add-one, arith}
use Rattle.theory.specs.Numbers.Sum.{sum_next}
use Rattle.near.specs.Row.{value_at}
use Rattle.theory.specs.Numbers.Cuts.{longest_above}
use Rattle.near.proofs.row.added_on.Goals as goal

pub cut-sum-requires : goal.cut-sum-requires
cut-sum-requires c =
    let r = c.args.row.now in
    omega (arith, longest_above (value_at r) (length r) c.loop-j.j (omega arith))

pub loop-j-preserved : goal.loop-j-preserved
loop-j-preserved c =
    let l = c.loop-j in
    let a = c.args in
    let n = sum_next (λ i. value_at a.row.now i / 2 ^ a.k) l.j _ (add-one l.j) in
    (omega (arith, n, c.cut-sum.ensures.0), omega (arith, c.cut-sum.ensures.1))
