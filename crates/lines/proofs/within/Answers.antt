use native.Mathlib.Omega.{arith}
use borrow.Author.Rules.{rules}
use Rattle.text.proofs.Paging.{landed}
use Rattle.report.proofs.Refusals.{short}
use Rattle.lines.proofs.Lined.{held_line, refused_line}
use Rattle.lines.proofs.within.Goals as goal

pub returns-then-buffer-lt-WITHIN_ROOM : goal.returns-then-buffer-lt-WITHIN_ROOM
returns-then-buffer-lt-WITHIN_ROOM c = short c.from.result (omega arith) c.from.ensures

pub returns-in-Ok : goal.returns-in-Ok
returns-in-Ok c = held_line c.if-buffer-lt-WITHIN_ROOM.false c.in-Ok.parts c.in-Ok.ensures (landed (search rules) (c.parts_line.ensures.fitted c.if-buffer-lt-WITHIN_ROOM.false).written)

pub returns-in-Err : goal.returns-in-Err
returns-in-Err c = refused_line c.if-buffer-lt-WITHIN_ROOM.false c.in-Err.r c.answer.result c.in-Err.ensures c.from-in-Err.ensures c.answer.ensures
