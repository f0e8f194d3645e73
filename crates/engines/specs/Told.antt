-- What the reward entry promises.
use Rattle.std.specs.Prelude.{ℕ, List, Result}
use Rattle.meaning.specs.Refusal.{Lent}
use Rattle.meaning.specs.Outcome.{RewardOutcome}
use Rattle.chain.specs.declared.refusal.Refusal.{Refusal}
use Rattle.engines.specs.declared.answer.Reward.{Reward}
use Rattle.engines.specs.Answer.{told_reward, ProperReward}

-- The outcome of the reward entry. A fraction's denominator is above 0, so that 1 over 0 is said by Infinite alone.
pub record Rewarded (l : Lent) (r : Result Reward Refusal) (work : List ℕ) : Type 0 where
  pub outcome : RewardOutcome l (told_reward r) work
  pub proper : ProperReward r
