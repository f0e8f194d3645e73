use mathlib.Core.Path.{◌≡◌}
use native.Mathlib.Omega.{arith}
use Rattle.choice.proofs.Filling.{filling_none, filling_more, filling_room, filling_most, filling_all}
use Rattle.choice.proofs.rest.put_rest.Goals as goal

pub loop-i-init : goal.loop-i-init
loop-i-init c = filling_none _ _ _

pub put-p-requires : goal.put-p-requires
put-p-requires c =
    let l = c.loop-i in
    let h = c.loop-i-test.true in
    let e = c.requires.0 in
    (filling_room _ _ _ l.invariant _ h e, filling_most _ _ _ l.invariant _ h e)

pub loop-i-preserved : goal.loop-i-preserved
loop-i-preserved c = filling_more _ _ _ c.loop-i.invariant c.put-p.ensures

pub returns : goal.returns
returns c =
    let l = c.loop-i in
    let a = c.args in
    let e : l.i ≡ a.n = omega arith in
    filling_all a.going a.m a.order.now (rw e at l.invariant) c.requires.0
