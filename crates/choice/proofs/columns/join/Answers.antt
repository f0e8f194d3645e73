use Rattle.choice.proofs.Members.{joined}
use Rattle.choice.proofs.columns.join.Goals as goal

pub returns : goal.returns
returns c = let a = c.args in joined a.columns.now a.j a.members c.requires
