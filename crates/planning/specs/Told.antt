-- What the planners are handed and what they answer, in the words of `meaning`.
use Rattle.std.specs.Prelude.{ℕ, ◌<◌, ◌≡◌}
use Rattle.meaning.specs.Copies.{Plan, Sensible}
use Rattle.meaning.specs.Near.{Near}
use Rattle.meaning.specs.PlanTable.{with_copies, WeightsRefused, PlanNear}
use Rattle.meaning.specs.PlanTable as meant
use Rattle.egorstream.specs.Near.{Tells}
use Rattle.egorstream.specs.declared.nearly.Nearness.{Nearness}
use Rattle.planning.specs.declared.weights.Weights.{Weights}

abbrev pub told_weights : Weights → meant.Weights
told_weights w = record { loss = w.loss; rebuild = w.rebuild; finish = w.finish }

-- What is promised of a plan's near chances.
pub record PlanNears (j : Plan) (r : Nearness) : Type 0 where
  pub chance : Near
  pub missing : Near
  pub outcome : PlanNear j chance missing
  pub tells : Tells chance missing r

-- The weights are refused by that number and place, or they serve.
pub record Weighed (x : meant.Weights) (number place : ℕ) : Type 0 where
  pub serve : number ≡ 0 → Sensible (with_copies x 1)
  pub wrong : 0 < number → WeightsRefused x number place
