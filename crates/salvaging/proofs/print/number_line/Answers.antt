use Rattle.text.proofs.Paging.{one, and, then}
use Rattle.salvaging.proofs.Lined.{no_line, some_line}
use Rattle.salvaging.proofs.print.number_line.Goals as goal

pub returns-then-x-ne0 : goal.returns-then-x-ne0
returns-then-x-ne0 c =
    let a = c.args in
    some_line a.word.now a.i a.x c.if-x-ne0.true (then (and (one c.put.ensures) c.pair.ensures) c.put-then-x-ne0.ensures)

pub returns-else-x-ne0 : goal.returns-else-x-ne0
returns-else-x-ne0 c =
    let a = c.args in
    no_line a.word.now a.i a.x c.if-x-ne0.false
