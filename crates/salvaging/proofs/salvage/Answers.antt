use native.Mathlib.Omega.{arith}
use Rattle.report.proofs.Refusals.{short, printed, refusal_written}
use Rattle.salvaging.proofs.salvage.Goals as goal

pub returns-then-buffer-lt-ROOM : goal.returns-then-buffer-lt-ROOM
returns-then-buffer-lt-ROOM c = short c.from.result (omega arith) c.from.ensures

pub returns-in-Ok : goal.returns-in-Ok
returns-in-Ok c = printed (omega (arith, c.if-buffer-lt-ROOM.false)) c.in-Ok.ensures

pub returns-in-Err : goal.returns-in-Err
returns-in-Err c =
    refusal_written c.in-Err.r c.answer.result (omega arith) (omega (arith, c.if-buffer-lt-ROOM.false)) c.from-in-Err.ensures c.in-Err.ensures c.answer.ensures
