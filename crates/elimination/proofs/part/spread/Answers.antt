use Prim.Native.Nat.{◌+◌, ◌<◌}
use mathlib.Core.Path.{◌≡◌}
use native.Mathlib.Omega.{arith}
use lib.ListN.{length}
use Rattle.elimination.specs.Packed.{weights_at}
use Rattle.elimination.proofs.Along.{spread_none, spread_all, spread_room, spread_more}
use Rattle.elimination.proofs.part.spread.Goals as goal
use Rattle.elimination.proofs.part.spread.Goals.{In-Some}

pub loop-k-init : goal.loop-k-init
loop-k-init c =
    let a = c.enumerate-k-items.ensures in
    rw (c.into_iter-k-iterator.ensures.into_iter_gives, a.source, a.count) (spread_none c.args.part.now (omega arith))

room : (c : In-Some) → weights_at + c.in-Some.k < length c.args.part.now
room c = let s = c.in-Some.ensures.steps in rw s.1 (spread_room c.loop-k.invariant s.0.0 c.requires)

pub overflow_add-wide : goal.overflow_add-wide
overflow_add-wide c = omega (arith, room c)

pub offset_bounds-part-k : goal.offset_bounds-part-k
offset_bounds-part-k c = omega (arith, room (goal.at.offset_bounds-part-k c).In-Some)

pub bounds-part-k : goal.bounds-part-k
bounds-part-k c = room (goal.at.bounds-part-k c).In-Some

pub offset_bounds-wide-j : goal.offset_bounds-wide-j
offset_bounds-wide-j c = omega (arith, c.in-Some.ensures.steps.0.0.small)

pub bounds-wide-j : goal.bounds-wide-j
bounds-wide-j c = omega (arith, c.in-Some.ensures.steps.0.0.small)

pub loop-k-preserved : goal.loop-k-preserved
loop-k-preserved c =
    let s = c.in-Some.ensures.steps in
    let n : weights_at + (c.loop-k.k-iterator.count + 1) ≡ weights_at + c.loop-k.k-iterator.count + 1 = omega arith in
    rw (s.1, s.2, n) (spread_more c.loop-k.invariant s.0.0 s.0.1)

pub returns : goal.returns
returns c = spread_all c.loop-k.invariant c.in-None.ensures.steps.0.0
