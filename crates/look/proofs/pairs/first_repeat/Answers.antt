use native.Mathlib.Omega.{arith}
use Rattle.std.proofs.Common.{rules}
use Rattle.chain.proofs.Passing.{pass, done}
use Rattle.look.proofs.pairs.first_repeat.Goals as goal

pub later-preserved : goal.later-preserved
later-preserved c =
    (c.earlier.invariant.0, pass c.later.invariant.1 (search rules) (λ bad. c.earlier.invariant.1.1 bad.1.0 (omega (arith, bad.1.1.0)) bad.1.1.1))

pub returns-after-later : goal.returns-after-later
returns-after-later c =
    rw c.later.invariant.0 (done c.later.invariant.1 (omega (arith, c.later-test.false)) (λ k bad. bad.0))
