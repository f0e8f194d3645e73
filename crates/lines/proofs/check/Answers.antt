use native.Mathlib.Omega.{arith}
use borrow.Author.Rules.{rules}
use Rattle.text.proofs.Paging.{landed}
use Rattle.report.proofs.Refusals.{short}
use Rattle.lines.proofs.Verdicts.{judged_line, refused_line}
use Rattle.lines.proofs.check.Goals as goal

pub returns-then-buffer-lt-CHECK_ROOM : goal.returns-then-buffer-lt-CHECK_ROOM
returns-then-buffer-lt-CHECK_ROOM c = short c.from.result (omega arith) c.from.ensures

pub returns-in-Ok : goal.returns-in-Ok
returns-in-Ok c =
    let room = c.if-buffer-lt-CHECK_ROOM.false in
    judged_line room c.in-Ok.verdict c.in-Ok.ensures (landed (search rules) (c.judged_line.ensures.fitted room).written)

pub returns-in-Err : goal.returns-in-Err
returns-in-Err c = refused_line c.if-buffer-lt-CHECK_ROOM.false c.in-Err.r c.answer.result c.in-Err.ensures c.from-in-Err.ensures c.answer.ensures
