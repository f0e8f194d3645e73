use mathlib.Core.Bool.{false}
use mathlib.Core.List.{[]}
use Rattle.meaning.specs.Refusal.{Lent}
use Rattle.chain.specs.Given.{with}
use Rattle.engines.proofs.Outcomes.{outcome_chance}
use Rattle.engines.proofs.entry.chance.Goals as goal
use Rattle.engines.proofs.entry.chance.Goals.{Start}

abbrev l : Start → Lent
l c = let a = c.args in with a.g.now a.order.now [] a.work.now

pub returns : goal.returns
returns c = rw c.chance_of.ensures (outcome_chance false (l (goal.at.returns c).Start) _ _ _ c.with_lent-course.ensures)
