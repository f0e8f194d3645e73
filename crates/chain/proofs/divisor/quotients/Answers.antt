use native.Mathlib.Omega.{arith}
use Rattle.meaning.specs.Row.{over}
use Rattle.theory.specs.Numbers.Walk.{walk_none, walk_at, walk_more, walk_all}
use Rattle.chain.proofs.divisor.quotients.Goals as goal

pub loop-j-init : goal.loop-j-init
loop-j-init c = walk_none

pub loop-j-preserved : goal.loop-j-preserved
loop-j-preserved c =
    let p = c in
    let w = p.loop-j.invariant in
    walk_more w (omega arith) (rw (walk_at w))

pub returns : goal.returns
unfolding over
returns c = walk_all c.loop-j.invariant (omega arith)
