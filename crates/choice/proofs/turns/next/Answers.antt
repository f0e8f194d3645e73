use mathlib.Core.Path.{◌≡◌}
use native.Mathlib.Omega.{arith}
use Rattle.choice.specs.Turns.{product_in}
use Rattle.choice.proofs.Picking.{best_some}
use Rattle.choice.proofs.turns.next.Goals as goal

pub unwrap-requires : goal.unwrap-requires
unwrap-requires c =
    let l = c.loop-i in
    let a = c.args in
    let e : l.i ≡ a.n = omega arith in
    best_some a.left a.n (product_in a.n a.columns.now) l.best c.requires.1 c.requires.2 (rw e at l.invariant)
