use Rattle.text.proofs.Paging.{one, and, then}
use Rattle.report.proofs.print.answer_line.Goals as goal

pub returns : goal.returns
returns c =
    then (and (one c.put.ensures) c.answer.ensures) c.put-2.ensures
