use Rattle.survey.proofs.Members.{astray_set}
use Rattle.survey.proofs.reach.astray.Goals as goal

pub returns : goal.returns
returns c = let a = c.args in astray_set a.good a.reached
