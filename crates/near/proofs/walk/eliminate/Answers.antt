use Rattle.std.proofs.Common.{◌*◌, ◌≤◌, ◌<◌, mul-le-mul, arith}
use Rattle.near.proofs.Gaps.{going, gone_next}
use Rattle.near.proofs.Walks.{walked_none, walked_more, walked_all}
use Rattle.near.proofs.walk.eliminate.Goals as goal
use Rattle.near.proofs.walk.eliminate.Goals.{In-loop-s}

-- There is a state for each place in the order.
turn_in : (c : In-loop-s) → c.loop-s.s-index < c.args.c.states
turn_in c = omega (arith, c.requires.few_states.2)

pub loop-s-init : goal.loop-s-init
loop-s-init c =
    (walked_none, record { within = (omega arith, omega arith); columns = λ i l. record { nothing = λ j a b. absurd (omega arith) }; rows = λ i a b. absurd (omega arith) })

pub gap_at-gap-requires : goal.gap_at-gap-requires
gap_at-gap-requires c =
    let h = c.requires in
    omega (arith, h.few_states.0, h.order_fits _ (turn_in (goal.at.gap_at-gap-requires c).In-loop-s))

pub turn-rows-requires : goal.turn-rows-requires
turn-rows-requires c =
    let h = c.requires in
    let z = c.loop-s.invariant in
    let inside = h.order_fits _ (turn_in (goal.at.turn-rows-requires c).In-loop-s) in
    let g = rw c.goes.ensures at c.gap_at-gap.ensures in
    (h.few_states.0, omega (arith, h.few_states.1, z.0.kept.len), inside, going _ _ z.1 inside g)

pub overflow_add-rows : goal.overflow_add-rows
overflow_add-rows c =
    let n = c.args.c.states in
    let few = c.requires.few_states.0 in
    let z = c.loop-s.invariant.0 in
    let past : c.loop-s.s-index ≤ 64 = omega (arith, z.so_far, few) in
    let most : c.loop-s.s-index * n ≤ 64 * 64 = mul-le-mul past few in
    omega (arith, z.few, most, few, c.turn-rows.ensures.few)

pub loop-s-preserved : goal.loop-s-preserved
loop-s-preserved c =
    let h = c.requires in
    let l = turn_in (goal.at.loop-s-preserved c).In-loop-s in
    let z = c.loop-s.invariant in
    let T = c.turn-rows.ensures in
    let g = rw c.goes.ensures at c.gap_at-gap.ensures in
    (walked_more z.0 l T, gone_next _ _ z.1 (h.order_fits _ l) g T (omega (arith, h.few_states.1, z.0.kept.len)))

pub shape_of-work : goal.shape_of-work
shape_of-work c = c.loop-s.invariant.0.kept.len

pub returns : goal.returns
returns c = walked_all c.loop-s.invariant.0 (omega (arith, c.requires.few_states.2))
