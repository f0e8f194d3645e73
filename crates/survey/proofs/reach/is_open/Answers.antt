use Rattle.survey.proofs.Members.{one, open_set}
use Rattle.survey.proofs.reach.is_open.Goals as goal

pub returns : goal.returns
returns c = let a = c.args in rw (one c.alone.ensures c.requires) (open_set a.barrier a.set a.i)
