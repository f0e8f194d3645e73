use mathlib.Core.Bool.{false}
use mathlib.Core.List.{[]}
use Rattle.meaning.specs.Refusal.{Lent}
use Rattle.elimination.specs.Own.{ours}
use Rattle.engines.proofs.Outcomes.{outcome_chance}
use Rattle.engines.proofs.entry.chance_unlent.Goals as goal
use Rattle.engines.proofs.entry.chance_unlent.Goals.{Start}

abbrev l : Start → Lent
l c = let a = c.args in ours a.g.now.chain a.g.now.denominators.now a.g.now.edges.now a.order.now []

pub returns : goal.returns
returns c =
    let z = c.with_own-course.ensures in
    record { work = z.work; outcome = rw c.chance_of.ensures (outcome_chance false (l (goal.at.returns c).Start) _ _ _ z.outcome) }
