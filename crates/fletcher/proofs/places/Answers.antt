use Prim.Native.Nat.{◌*◌, ◌≤◌}
use mathlib.Core.Path.{ap, ◌∙◌}
use native.Mathlib.Nat.{mul-le-mul}
use native.Mathlib.Omega.{arith}
use borrow.Author.Rules.{rules}
use Rattle.fletcher.specs.Columns.{columns}
use Rattle.fletcher.proofs.Columns.{none, more, all}
use Rattle.fletcher.proofs.places.Goals as goal
use Rattle.fletcher.proofs.places.Goals.{After-from}

-- What one column counts.
room : (c : After-from) → c.loop-c.c * c.from.result ≤ columns * 65535
room c = mul-le-mul {n₂ = columns} {m₂ = 65535} (omega arith) (omega arith)

pub loop-c-init : goal.loop-c-init
loop-c-init c = none

pub overflow_mul-sum : goal.overflow_mul-sum
overflow_mul-sum c = omega (arith, room c)

pub overflow_add-sum : goal.overflow_add-sum
overflow_add-sum c = omega (arith, room c)

pub loop-c-preserved : goal.loop-c-preserved
loop-c-preserved c =
    let at = c in
    more at.loop-c.invariant (search rules) (ap (λ z. at.loop-c.c * z) c.from.ensures) (room c)

pub returns : goal.returns
returns c = c.from-2.ensures ∙ all c.loop-c.invariant (search rules)
