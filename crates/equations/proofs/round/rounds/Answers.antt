use mathlib.Core.Path.{◌≡◌, sym, ap, ◌∙◌}
use mathlib.Core.List.{[]}
use native.Mathlib.Omega.{arith}
use Rattle.meaning.specs.Refusal.{Lent, bare}
use Rattle.meaning.specs.Within.{held}
use Rattle.theory.specs.Outcomes.Formed.{few_states, start_in}
use Rattle.chain.specs.Given.{with}
use Rattle.equations.proofs.Rounds.{divides, holds_first, holds_carries, holds_next}
use Rattle.equations.proofs.round.rounds.Goals as goal
use Rattle.equations.proofs.round.rounds.Goals.{Start}

-- What the function is lent.
abbrev lends : Start → Lent
lends s = with s.args.g.now [] [] []

pub shares-values-requires : goal.shares-values-requires
shares-values-requires c = divides (lends (goal.at.shares-values-requires c).Start) c.requires

pub loop-init : goal.loop-init
loop-init c = holds_first (lends (goal.at.loop-init c).Start) c.requires c.shares-values.ensures

pub slice_bounds-flows-end : goal.slice_bounds-flows-end
slice_bounds-flows-end c = sym c.loop.invariant.size

pub flows-carried-requires : goal.flows-carried-requires
flows-carried-requires c =
    holds_carries (lends (goal.at.flows-carried-requires c).Start) c.requires c.loop.invariant

pub shares-values-requires-in-loop : goal.shares-values-requires-in-loop
shares-values-requires-in-loop c =
    divides (lends (goal.at.shares-values-requires-in-loop c).Start) c.requires

pub loop-preserved : goal.loop-preserved
loop-preserved c =
    holds_next (lends (goal.at.loop-preserved c).Start) c.requires c.loop.invariant c.flows-carried.ensures c.shares-values-in-loop.ensures

pub offset_bounds-values-g : goal.offset_bounds-values-g
offset_bounds-values-g c =
    let here = (goal.at.offset_bounds-values-g c).Start in
    omega (arith, start_in bare (lends here) c.requires, few_states bare (lends here) c.requires)

pub bounds-values-g : goal.bounds-values-g
bounds-values-g c =
    let here = (goal.at.bounds-values-g c).Start in
    omega (arith, start_in bare (lends here) c.requires, few_states bare (lends here) c.requires)

pub returns : goal.returns
returns c =
    let here = (goal.at.returns c).Start in
    let last : c.loop.counter ≡ c.args.steps = omega arith in
    c.loop.invariant.is _ (start_in bare (lends here) c.requires) ∙ ap (λ k. held (lends here).chain k c.args.g.now.chain.start) last
