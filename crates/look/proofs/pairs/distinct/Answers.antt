use Prim.Native.Nat.{◌<◌}
use native.Mathlib.Omega.{arith}
use Rattle.std.proofs.Common.{rules, below_more}
use Rattle.meaning.specs.Chain.{most_states}
use Rattle.theory.specs.Numbers.Bits.{one_set}
use Rattle.look.proofs.Ends.{from_below, to_below}
use Rattle.look.proofs.Seen.{none, stood, fresh, more}
use Rattle.look.proofs.pairs.distinct.Goals as goal
use Rattle.look.proofs.pairs.distinct.Goals.{After-to-j}

pub loop-e-init : goal.loop-e-init
loop-e-init c = (λ k h. absurd (omega arith), none _)

source : (c : After-to-j) → c.from-i.result < most_states
source c = omega (arith, c.from-i.ensures, from_below c.args.edges.now c.requires c.loop-e.e (search rules))

target : (c : After-to-j) → c.to-j.result < most_states
target c = omega (arith, c.to-j.ensures, to_below c.args.edges.now c.requires c.loop-e.e (search rules))

pub returns-then-targets-j-eq1 : goal.returns-then-targets-j-eq1
returns-then-targets-j-eq1 c =
    λ none. none _ (stood _ _ _ c.loop-e.invariant.1 _ _ c.from-i.ensures c.to-j.ensures (source (goal.at.returns-then-targets-j-eq1 c).After-to-j) (search rules) c.if-targets-j-eq1.true)

pub loop-e-preserved : goal.loop-e-preserved
loop-e-preserved c =
    let p = c.from-i.ensures in
    let q = c.to-j.ensures in
    let at = (goal.at.loop-e-preserved c).After-to-j in
    let h = source at in (
      below_more _ _ c.loop-e.invariant.0 (fresh _ _ _ c.loop-e.invariant.1 _ _ p q h c.if-targets-j-eq1.false),
      rw (one_set c.to-j.result (target at)) (more _ _ _ c.loop-e.invariant.1 _ _ p q h),
    )

pub returns : goal.returns
returns c = λ q bad. c.loop-e.invariant.0 q (omega (arith, bad.0)) bad
