use Rattle.survey.proofs.Members.{one}
use Rattle.survey.proofs.Marking.{marked_one}
use Rattle.survey.proofs.reach.marked.Goals as goal

pub returns : goal.returns
returns c = marked_one _ _ _ _ (one c.alone.ensures c.requires) c.if-lack-eq0.false
