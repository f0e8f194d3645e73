use native.Mathlib.Omega.{arith}
use mathlib.Core.Path.{sym}
use Rattle.chain.proofs.Lowest.{divisor_one, divisor_large, lowest_same, lowest_over}
use Rattle.chain.proofs.divisor.reduce.Goals as goal

pub returns-then-g-le1 : goal.returns-then-g-le1
returns-then-g-le1 c =
    let e = c.common-g.ensures in
    (lowest_same _ _ e (omega arith), sym (divisor_one _ (omega arith)))

pub returns : goal.returns
returns c =
    let e = c.common-g.ensures in
    (lowest_over _ _ _ e (omega arith) c.divide.ensures, divisor_large _ _ e (omega arith))
