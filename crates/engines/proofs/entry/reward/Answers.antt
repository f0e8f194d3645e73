use Rattle.meaning.specs.Refusal.{Lent}
use Rattle.chain.specs.Given.{with}
use Rattle.engines.proofs.Outcomes.{outcome_reward}
use Rattle.engines.proofs.entry.reward.Goals as goal
use Rattle.engines.proofs.entry.reward.Goals.{Start}

abbrev l : Start → Lent
l c = let a = c.args in with a.g.now a.order.now a.rewards.now a.work.now

pub returns : goal.returns
returns c = rw c.reward_of.ensures (outcome_reward (l (goal.at.returns c).Start) _ _ _ c.with_lent-course.ensures)
