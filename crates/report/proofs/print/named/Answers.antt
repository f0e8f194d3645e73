use Rattle.text.proofs.Paging.{one, then}
use Rattle.report.proofs.print.named.Goals as goal

pub returns : goal.returns
returns c =
    then (one c.put.ensures) c.number.ensures
