use Prim.Native.Nat.{◌/◌, ◌^◌}
use mathlib.Core.Path.{◌≡◌, sym, ap, ◌∙◌}
use native.Mathlib.Numerals.{add-one}
use native.Mathlib.Omega.{arith}
use lib.Dec.{ltb}
use lib.ListN.{length, get_or}
use Rattle.meaning.specs.Number.{sum_to, only}
use Rattle.meaning.specs.Row.{cell, over}
use Rattle.theory.specs.Numbers.Sum.{sum_next, sum_term, sum_up}
use Rattle.theory.specs.Rows.Terms.{over_cell}
use Rattle.elimination.proofs.Fill.{only_le, count_most}
use Rattle.theory.specs.Numbers.Walk.{walk_none, walk_at, walk_more, walk_all}
use Rattle.elimination.proofs.row.lower_weights.Goals as goal
use Rattle.elimination.proofs.row.lower_weights.Goals.{After-loop-x, In-loop-x}

pub loop-x-init : goal.loop-x-init
unfolding sum_to
loop-x-init c = (walk_none, omega arith, omega arith)

-- The weight that is divided.
here : (c : In-loop-x)
    → let l = c.loop-x in
    let a = c.args in
    get_or l.weights l.x-index 0 / 2 ^ a.k ≡ cell (over (2 ^ a.k) a.weights.now) l.x-index
here c =
    let l = c.loop-x in
    let a = c.args in
    ap (λ x. x / 2 ^ a.k) (walk_at l.invariant.0) ∙ sym (over_cell (2 ^ a.k) a.weights.now l.x-index)

pub overflow_add-sum : goal.overflow_add-sum
overflow_add-sum c =
    let a = c.args in
    omega (arith, here (goal.at.overflow_add-sum c).In-loop-x, sum_up (cell (over (2 ^ a.k) a.weights.now)) c.loop-x.x-index (length a.weights.now) (omega arith))

pub above-some-requires : goal.above-some-requires
above-some-requires c =
    let a = c.args in
    omega (arith, here (goal.at.above-some-requires c).In-loop-x, sum_term (cell (over (2 ^ a.k) a.weights.now)) (length a.weights.now) c.loop-x.x-index (omega arith))

pub overflow_add-some : goal.overflow_add-some
overflow_add-some c =
    let l = c.loop-x in
    let a = c.args in
    omega (arith, c.above-some.ensures, count_most (cell (over (2 ^ a.k) a.weights.now)) l.x-index, only_le (get_or l.weights l.x-index 0 / 2 ^ a.k) 1)

pub loop-x-preserved : goal.loop-x-preserved
loop-x-preserved c =
    let l = c.loop-x in
    let a = c.args in
    let f = cell (over (2 ^ a.k) a.weights.now) in
    let w = l.invariant.0 in (
      walk_more w (omega arith) (rw (walk_at w)),
      omega (arith, here (goal.at.loop-x-preserved c).In-loop-x, sum_next f l.x-index _ (add-one _)),
      omega (arith, c.above-some.ensures, ap (λ x. only (ltb 0 x) 1) (here (goal.at.loop-x-preserved c).In-loop-x), sum_next (λ i. only (ltb 0 (f i)) 1) l.x-index _ (add-one _)),
    )

each : (c : After-loop-x)
    → let a = c.args in
    c.loop-x.weights ≡ over (2 ^ a.k) a.weights.now
unfolding over
each c = walk_all c.loop-x.invariant.0 (omega arith)

pub returns : goal.returns
returns c =
    let i = c.loop-x.invariant in
    let e : c.loop-x.x-index ≡ length c.args.weights.now = omega arith in
    record { each = each c; sum = rw (each c, ← e) i.1; some = rw (each c, ← e) i.2 }
