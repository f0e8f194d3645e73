use Rattle.text.proofs.Paging.{one, and, then}
use Rattle.report.proofs.print.face_line.Goals as goal

pub returns : goal.returns
returns c =
    then (and (then (then (one c.put.ensures) c.number.ensures) c.put-2.ensures) c.answer.ensures) c.put-3.ensures
