use native.Mathlib.Omega.{arith}
use borrow.Author.Rules.{rules}
use Rattle.text.proofs.Paging.{landed}
use Rattle.report.proofs.Refusals.{short}
use Rattle.lines.proofs.Nears.{two_lines, refused_line}
use Rattle.lines.proofs.near.Goals as goal

pub returns-then-buffer-lt-NEAR_ROOM : goal.returns-then-buffer-lt-NEAR_ROOM
returns-then-buffer-lt-NEAR_ROOM c = short c.from.result (omega arith) c.from.ensures

pub returns-in-Ok : goal.returns-in-Ok
returns-in-Ok c = two_lines c.if-buffer-lt-NEAR_ROOM.false c.in-Ok.found c.in-Ok.ensures (landed (search rules) (c.found_lines.ensures.fitted c.if-buffer-lt-NEAR_ROOM.false).written)

pub returns-in-Err : goal.returns-in-Err
returns-in-Err c = refused_line c.if-buffer-lt-NEAR_ROOM.false c.in-Err.r c.answer.result c.in-Err.ensures c.from-in-Err.ensures c.answer.ensures
