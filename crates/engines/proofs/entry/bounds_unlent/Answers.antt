use mathlib.Core.List.{[]}
use Rattle.meaning.specs.Refusal.{Lent}
use Rattle.elimination.specs.Own.{ours}
use Rattle.engines.proofs.Outcomes.{outcome_bounds, summed_bounds}
use Rattle.engines.proofs.entry.bounds_unlent.Goals as goal
use Rattle.engines.proofs.entry.bounds_unlent.Goals.{Start}

abbrev l : Start → Lent
l c = let a = c.args in ours a.g.now.chain a.g.now.denominators.now a.g.now.edges.now a.order.now []

pub bounds_of-requires : goal.bounds_of-requires
bounds_of-requires c = summed_bounds (l (goal.at.bounds_of-requires c).Start) _ _ _ c.with_own-course.ensures.outcome

pub returns : goal.returns
returns c =
    let z = c.with_own-course.ensures in
    record { work = z.work; outcome = rw c.bounds_of.ensures (outcome_bounds (l (goal.at.returns c).Start) _ _ _ z.outcome) }
