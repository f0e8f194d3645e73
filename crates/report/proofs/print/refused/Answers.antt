use Rattle.text.proofs.Paging.{one, then}
use Rattle.report.proofs.print.refused.Goals as goal

pub returns : goal.returns
returns c =
    rw (← c.from.ensures) (then (then (then (one c.put.ensures) c.number.ensures) c.put-2.ensures) c.number-2.ensures)
