use Prim.Native.Nat.{◌-◌, ◌*◌, ◌≤◌}
use native.Mathlib.Nat.{mul-le-mul_left}
use native.Mathlib.Omega.{arith}
use lib.ListN.{length, get_or-eq_default}
use borrow.Author.Rules.{rules}
use Rattle.meaning.specs.Block.{checked_bytes}
use Rattle.fletcher.proofs.Summed.{none, more, rest, all}
use Rattle.fletcher.proofs.byte_by_byte.Goals as goal
use Rattle.fletcher.proofs.byte_by_byte.Goals.{After-loop-byte}

pub loop-byte-init : goal.loop-byte-init
loop-byte-init c = (search rules, none (search rules) (search rules))

pub loop-byte-preserved : goal.loop-byte-preserved
loop-byte-preserved c =
    let g = c.loop-byte.invariant in
    (search rules, more g.1 (search rules) (search rules) c.from-first.ensures (omega arith))

-- What the bytes that are not kept add is small.
room : (c : After-loop-byte)
    → let a = c.args in
    c.loop-byte.first * (checked_bytes - length a.block.now) ≤ c.loop-byte.first * checked_bytes
room c = mul-le-mul_left c.loop-byte.first (omega arith)

pub overflow_mul-second : goal.overflow_mul-second
overflow_mul-second c = omega (arith, room c)

pub overflow_add-second-2 : goal.overflow_add-second-2
overflow_add-second-2 c = omega (arith, room c)

pub returns : goal.returns
returns c =
    let at = c in
    let bytes = at.args.block.now in
    all (rest at.loop-byte.invariant.1 (search rules) (checked_bytes - length bytes) (omega arith) (λ j h. get_or-eq_default bytes 0 (omega arith))) (omega arith)
