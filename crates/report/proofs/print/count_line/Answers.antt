use Rattle.text.proofs.Paging.{then}
use Rattle.report.proofs.print.count_line.Goals as goal

pub returns : goal.returns
returns c =
    then c.named.ensures c.put.ensures
