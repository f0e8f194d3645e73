use Prim.Native.Nat.{◌+◌, ◌-◌, ◌*◌, ◌/◌, ◌^◌, ◌≤◌, ◌<◌}
use native.Mathlib.Omega.{arith}
use Rattle.meaning.specs.Near.{digits}
use Rattle.decimals.proofs.Growing.{Growing, growing_none, growing_more, growing_longer, twos_left, growing_six, growing_small}
use Rattle.decimals.proofs.six_digits.Goals as goal
use Rattle.decimals.proofs.six_digits.Goals.{After-extra-c}

pub loop-whole-init : goal.loop-whole-init
loop-whole-init c = (growing_none _ _ c.requires, c.over-whole.ensures)

-- What a turn makes of the number.
small : (c : After-extra-c) → let l = c.loop-whole in l.v / 2 ^ l.left < 100000
small c = omega (arith, c.loop-whole.invariant.1)

more : (c : After-extra-c)
    → let l = c.loop-whole in
    let a = c.args in
    Growing a.p a.twos (10 * l.v / 2 ^ c.extra-c.result) (l.left - c.extra-c.result) (l.tens + 1)
more c = rw c.extra-c.ensures.0 (growing_more c.loop-whole.invariant.0 (small c))

longer : (c : After-extra-c)
    → let l = c.loop-whole in
    let e = l.invariant.0.e in
    digits l.v + e < digits (10 * l.v / 2 ^ c.extra-c.result) + (e + c.extra-c.result)
longer c = rw c.extra-c.ensures.0 (growing_longer c.loop-whole.invariant.0 (small c))

fewer : (c : After-extra-c) → c.extra-c.result ≤ c.loop-whole.left
fewer c = rw c.extra-c.ensures.0 (twos_left c.loop-whole.invariant.0 (small c))

pub overflow_sub-left : goal.overflow_sub-left
overflow_sub-left c = fewer c

pub loop-whole-smaller : goal.loop-whole-smaller
loop-whole-smaller c =
    omega (arith, longer (goal.at.loop-whole-smaller c).After-extra-c, fewer (goal.at.loop-whole-smaller c).After-extra-c, (more (goal.at.loop-whole-smaller c).After-extra-c).bound, c.loop-whole.invariant.0.split)

pub loop-whole-preserved : goal.loop-whole-preserved
loop-whole-preserved c = (more (goal.at.loop-whole-preserved c).After-extra-c, c.over-whole-in-loop-whole.ensures)

pub overflow_cast-result : goal.overflow_cast-result
overflow_cast-result c =
    let l = c.loop-whole in
    record { fits = omega (arith, growing_small c.requires l.invariant.0 l.invariant.1 (omega arith)) }

pub returns : goal.returns
returns c = let l = c.loop-whole in growing_six c.requires l.invariant.0 l.invariant.1 (omega arith)
