use native.Mathlib.Omega.{arith}
use Rattle.report.proofs.Refusals.{short, refusal_written}
use Rattle.showing.proofs.Showing.{show_written, show_refused}
use Rattle.showing.proofs.show.Goals as goal

pub returns-then-buffer-lt-ROOM : goal.returns-then-buffer-lt-ROOM
returns-then-buffer-lt-ROOM c = short c.from.result c.if-buffer-lt-ROOM.true c.from.ensures

pub returns-in-Ok : goal.returns-in-Ok
returns-in-Ok c = show_written c.if-buffer-lt-ROOM.false c.in-Ok.ensures

pub returns-in-Err : goal.returns-in-Err
returns-in-Err c =
    let long = c.if-buffer-lt-ROOM.false in
    refusal_written c.in-Err.r c.answer.result (omega arith) long c.from-in-Err.ensures (show_refused long c.in-Err.r c.in-Err.ensures) c.answer.ensures
