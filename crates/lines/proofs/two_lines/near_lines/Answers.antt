use Rattle.lines.proofs.Fitting.{and}
use Rattle.lines.proofs.two_lines.near_lines.Goals as goal

pub returns : goal.returns
returns c = and c.line.ensures c.line-2.ensures
