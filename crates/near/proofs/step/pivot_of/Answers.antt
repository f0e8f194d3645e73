use native.Mathlib.Omega.{arith}
use Rattle.elimination.proofs.Tables.{lent}
use Rattle.near.proofs.step.pivot_of.Goals as goal

pub returns : goal.returns
returns c =
    let a = c.args in
    rw (lent a.n a.s _ (c.row_start-a.ensures.row (omega arith) (omega arith)).0 a.work.now) at c.pivot.ensures
