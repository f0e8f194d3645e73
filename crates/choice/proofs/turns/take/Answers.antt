use Prim.Native.Nat.{◌<◌, ◌≤◌}
use mathlib.Core.Path.{◌≡◌, refl, sym, ◌∙◌}
use native.Mathlib.Omega.{arith}
use lib.ListN.{length}
use Rattle.meaning.specs.Chain.{most_states}
use Rattle.choice.proofs.Turning.{turning_none, turning_inside, turning_room, turning_more, turning_all}
use Rattle.choice.proofs.turns.take.Goals as goal
use Rattle.choice.proofs.turns.take.Goals.{At-loop-left}

-- At the beginning of a turn there is a place for it, in a list of n numbers, and n is at most 64.
room : (c : At-loop-left) → c.loop-left.count < c.args.n
room c = let r = c.requires.2 in turning_room r (c.loop-left.invariant _ _ r)

size : (c : At-loop-left) → length c.loop-left.order ≡ c.args.n
size c = let r = c.requires.2 in (c.loop-left.invariant _ _ r).size

few : (c : At-loop-left) → c.args.n ≤ most_states
few c = c.requires.2.few

pub loop-left-init : goal.loop-left-init
loop-left-init c = λ _ _ r. turning_none r

pub next-pick-requires : goal.next-pick-requires
next-pick-requires c =
    let r = c.requires.2 in
    let x = c.loop-left.invariant _ _ r in
    (record { size = x.weighed.size; few = r.few }, omega (arith, c.loop-left-test.true), turning_inside r x)

pub offset_bounds-order-count : goal.offset_bounds-order-count
offset_bounds-order-count c =
    let here = (goal.at.offset_bounds-order-count c).At-loop-left in
    omega (arith, room here, few here)

pub bounds-order-count : goal.bounds-order-count
bounds-order-count c =
    let here = (goal.at.bounds-order-count c).At-loop-left in
    omega (arith, room here, size here)

pub remove-requires : goal.remove-requires
remove-requires c =
    let r = c.requires.2 in
    ((c.loop-left.invariant _ _ r).weighed.size, few (goal.at.remove-requires c).At-loop-left, c.next-pick.ensures.first.inside)

pub without-left-requires : goal.without-left-requires
without-left-requires c =
    omega (arith, few (goal.at.without-left-requires c).At-loop-left, c.next-pick.ensures.first.inside)

pub overflow_add-sum : goal.overflow_add-sum
overflow_add-sum c =
    let here = (goal.at.overflow_add-sum c).At-loop-left in
    let r = c.requires.2 in
    omega (arith, (c.loop-left.invariant _ _ r).few, room here, few here, c.next-pick.ensures.few)

pub overflow_add-count : goal.overflow_add-count
overflow_add-count c =
    let here = (goal.at.overflow_add-count c).At-loop-left in
    omega (arith, room here, few here)

pub loop-left-smaller : goal.loop-left-smaller
loop-left-smaller c = omega (arith, room (goal.at.loop-left-smaller c).At-loop-left)

pub loop-left-preserved : goal.loop-left-preserved
loop-left-preserved c =
    λ _ _ r.
    turning_more r (c.loop-left.invariant _ _ r) c.next-pick.result c.next-pick.ensures _
    c.remove.ensures _ c.without-left.ensures

pub shape_of-columns : goal.shape_of-columns
shape_of-columns c =
    let r = c.requires.2 in (c.loop-left.invariant _ _ r).weighed.size ∙ sym r.weighed.size

pub shape_of-order : goal.shape_of-order
shape_of-order c =
    let r = c.requires.2 in (c.loop-left.invariant _ _ r).size ∙ sym r.size

pub returns : goal.returns
returns c = λ _ _ r. turning_all r (c.loop-left.invariant _ _ r) _ refl refl c.loop-left-test.false
