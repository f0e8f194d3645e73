use Prim.Native.Nat.{◌*◌, ◌≤◌}
use native.Mathlib.Omega.{arith}
use borrow.Author.Rules.{rules}
use Rattle.theory.specs.Numbers.Little.{none, small, product, more, all}
use Rattle.octets.proofs.whole_number.Goals as goal
use Rattle.octets.proofs.whole_number.Goals.{After-from}

pub loop-byte-init : goal.loop-byte-init
loop-byte-init c = none

-- A byte and its unit keep the number within four bytes.
room : (c : After-from) → let at = c.loop-byte in (at.unit ≤ 16777216) × (c.from.result * at.unit ≤ 255 * at.unit)
room c =
    let g = c.loop-byte.invariant in
    (small g (search rules) (search rules), product g (omega arith))

pub overflow_mul-number : goal.overflow_mul-number
overflow_mul-number c = omega (arith, room c)

pub overflow_add-number : goal.overflow_add-number
overflow_add-number c = omega (arith, room c)

pub overflow_mul-unit : goal.overflow_mul-unit
overflow_mul-unit c = omega (arith, room c)

pub loop-byte-preserved : goal.loop-byte-preserved
loop-byte-preserved c = more c.loop-byte.invariant (search rules) c.from.ensures (omega arith)

pub returns : goal.returns
returns c = all c.loop-byte.invariant (search rules)
