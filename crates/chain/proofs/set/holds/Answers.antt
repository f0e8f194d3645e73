use Prim.Native.Nat.{◌^◌, ◌<◌}
use native.Mathlib.Omega.{arith}
use borrow.Author.Tests.{ne_eqb, le-ltb}
use Rattle.meaning.specs.Number.{bit}
use Rattle.theory.specs.Numbers.Bits.{bit_below}
use Rattle.chain.proofs.set.holds.Goals as goal

-- A number of 64 bits has no bit past them.
pub returns-else-i-lt-STATES : goal.returns-else-i-lt-STATES
returns-else-i-lt-STATES c =
    let a = c.args in
    let small : a.set < 2 ^ 64 = omega arith in
    rw (ne_eqb (bit a.set a.i) 1 (λ e. omega (arith, bit_below a.set 64 a.i small e))) (le-ltb a.i 64 (omega arith))
