use Rattle.text.proofs.Paging.{and}
use Rattle.report.proofs.print.count_lines.Goals as goal

pub returns : goal.returns
returns c =
    and (and (and c.count_line.ensures c.count_line-2.ensures) c.count_line-3.ensures) c.count_line-4.ensures
