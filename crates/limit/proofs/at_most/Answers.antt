use Prim.Native.Nat.{◌*◌}
use mathlib.Core.Path.{ap}
use native.Mathlib.Omega.{arith}
use lib.Pow.{pow-add}
use Rattle.limit.proofs.Tens.{grown_past}
use Rattle.limit.proofs.at_most.Goals as goal

pub returns-then-y-v : goal.returns-then-y-v
returns-then-y-v c =
    let a = c.args in
    grown_past a.x c.loop.counter a.tens a.y (omega arith) (omega arith)

pub loop-preserved : goal.loop-preserved
loop-preserved c = (omega arith, omega (arith, ap (λ z. c.args.x * z) (pow-add 10 c.loop.counter 1)))
