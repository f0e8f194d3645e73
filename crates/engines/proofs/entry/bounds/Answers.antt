use mathlib.Core.List.{[]}
use Rattle.meaning.specs.Refusal.{Lent}
use Rattle.chain.specs.Given.{with}
use Rattle.engines.proofs.Outcomes.{outcome_bounds, summed_bounds}
use Rattle.engines.proofs.entry.bounds.Goals as goal
use Rattle.engines.proofs.entry.bounds.Goals.{Start}

abbrev l : Start → Lent
l c = let a = c.args in with a.g.now a.order.now [] a.work.now

pub bounds_of-requires : goal.bounds_of-requires
bounds_of-requires c = summed_bounds (l (goal.at.bounds_of-requires c).Start) _ _ _ c.with_lent-course.ensures

pub returns : goal.returns
returns c = rw c.bounds_of.ensures (outcome_bounds (l (goal.at.returns c).Start) _ _ _ c.with_lent-course.ensures)
