use native.Mathlib.Omega.{arith}
use Rattle.meaning.specs.Row.{over}
use Rattle.theory.specs.Numbers.Walk.{walk_none, walk_at, walk_more, walk_all}
use Rattle.chain.proofs.divisor.lower.Goals as goal

pub loop-x-init : goal.loop-x-init
loop-x-init c = walk_none

pub loop-x-preserved : goal.loop-x-preserved
loop-x-preserved c =
    let w = c.loop-x.invariant in
    walk_more w (omega arith) (rw (walk_at w))

pub returns : goal.returns
unfolding over
returns c = walk_all c.loop-x.invariant (omega arith)
