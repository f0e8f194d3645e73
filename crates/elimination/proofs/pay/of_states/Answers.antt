use Prim.Native.Nat.{◌*◌, ◌≤◌, ◌<◌}
use mathlib.Core.Path.{◌≡◌, ap₂, ◌∙◌}
use native.Mathlib.Nat.{mul-le-mul}
use native.Mathlib.Omega.{arith}
use lib.ListN.{length, take, get_or, get_or-append}
use lib.Seq.{length-take-le, get_or-take}
use Rattle.meaning.specs.Chain.{M, most_reward, most_states}
use Rattle.theory.specs.Numbers.Walk.{walk_none, walk_at, walk_more}
use Rattle.elimination.proofs.pay.of_states.Goals as goal
use Rattle.elimination.proofs.pay.of_states.Goals.{After-at-in-loop-i}

pub of_edges-pay-requires : goal.of_edges-pay-requires
of_edges-pay-requires c = c.requires.paying

pub slice_bounds-pay-end : goal.slice_bounds-pay-end
slice_bounds-pay-end c = omega (arith, c.requires.few, c.of_edges-pay.ensures.size)

pub loop-i-init : goal.loop-i-init
loop-i-init c = walk_none

-- The state's own pay, and what its edges paid.
module _ (c : After-at-in-loop-i) where
  inside : c.loop-i.i < c.args.n
  inside =
      let e : length (take c.args.n c.of_edges-pay.result) ≡ c.args.n =
      length-take-le c.args.n c.of_edges-pay.result (omega (arith, c.requires.few, c.of_edges-pay.ensures.size)) in
      omega (arith, c.loop-i-test.true)

  here : c.loop-i.i < most_states
  here = omega (arith, inside, c.requires.few)

  own : c.at.result * c.at-in-loop-i.result ≡ get_or c.args.rewards.now c.loop-i.i 0 * get_or c.args.denominators.now c.loop-i.i 0
  own = ap₂ (λ x y. x * y) c.at.ensures c.at-in-loop-i.ensures

  low : get_or c.args.rewards.now c.loop-i.i 0 * get_or c.args.denominators.now c.loop-i.i 0 ≤ most_reward * M
  low = mul-le-mul (c.requires.states _ inside) (c.requires.small _ inside)

  before : get_or c.loop-i.sum-items c.loop-i.i 0 ≡ get_or c.of_edges-pay.result c.loop-i.i 0
  before = walk_at c.loop-i.invariant ∙ get_or-take c.args.n c.of_edges-pay.result c.loop-i.i 0 inside

pub overflow_mul-sum : goal.overflow_mul-sum
overflow_mul-sum c = omega (arith, own c, low c)

pub overflow_add-sum : goal.overflow_add-sum
overflow_add-sum c =
    let at = (goal.at.overflow_add-sum c).After-at-in-loop-i in
    omega (arith, own at, low at, before at, c.of_edges-pay.ensures.most _ (here at))

pub loop-i-preserved : goal.loop-i-preserved
loop-i-preserved c =
    let at = (goal.at.loop-i-preserved c).After-at-in-loop-i in
    walk_more c.loop-i.invariant c.loop-i-test.true (omega (arith, own at, before at, c.of_edges-pay.ensures.is _ (here at)))

pub returns : goal.returns
returns c = λ i h.
    let w = c.loop-i.invariant in
    let e : length (take c.args.n c.of_edges-pay.result) ≡ c.args.n =
    length-take-le c.args.n c.of_edges-pay.result (omega (arith, c.requires.few, c.of_edges-pay.ensures.size)) in
    get_or-append c.loop-i.sum-items _ 0 i (omega (arith, w.len)) ∙ w.new i (omega (arith, c.loop-i-test.false))
