use Rattle.text.proofs.Paging.{and}
use Rattle.salvaging.proofs.print.left_lines.Goals as goal

pub returns : goal.returns
returns c = and (and c.bounds_line.ensures.0 c.number_lines.ensures) c.number_lines-2.ensures
