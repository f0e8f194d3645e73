use Rattle.std.proofs.Common.{get_or, add-one, arith}
use Rattle.near.proofs.Rows.{least_next}
use Rattle.near.proofs.row.least_on.Goals as goal

pub loop-j-preserved : goal.loop-j-preserved
loop-j-preserved c =
    let l = c.loop-j in
    omega (arith, least_next (λ i. get_or c.args.row.now i 0) l.j _ (add-one l.j), c.exponent_of.ensures, c.min-least.ensures)
