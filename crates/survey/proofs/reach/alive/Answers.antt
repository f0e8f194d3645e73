use Rattle.survey.proofs.Members.{alive_set}
use Rattle.survey.proofs.reach.alive.Goals as goal

pub returns : goal.returns
returns c = let a = c.args in alive_set a.good a.reached a.goals
