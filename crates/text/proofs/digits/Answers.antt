use native.Mathlib.Omega.{arith}
use Rattle.text.proofs.Counting.{counted}
use Rattle.text.proofs.digits.Goals as goal

pub returns : goal.returns
returns c =
    let e = c.ilog10.ensures in
    (counted c.ilog10.result c.args.x c.max.result (omega arith) e.power_le e.next_power_gt, omega (arith, e.bound))
