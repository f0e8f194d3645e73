use native.Mathlib.Omega.{arith}
use Rattle.elimination.proofs.Fill.{weighed, only_none, only_some}
use Rattle.elimination.proofs.row.above.Goals as goal

pub returns : goal.returns
returns c =
    let x = c.args.x in
    weighed x (λ z. omega (arith, only_none x 1 z)) (λ h. omega (arith, only_some x 1 h))
