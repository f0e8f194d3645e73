use native.Mathlib.Omega.{arith}
use mathlib.Core.Path.{refl}
use borrow.Author.Rules.{rules}
use Rattle.figures.specs.Told.{told_answer}
use Rattle.text.proofs.Paging.{landed}
use Rattle.report.proofs.Lengths.{answer_room_lem}
use Rattle.report.proofs.Refusals.{short, stands, printed}
use Rattle.report.proofs.answer.Goals as goal

pub returns-then-buffer-lt-ANSWER_ROOM : goal.returns-then-buffer-lt-ANSWER_ROOM
returns-then-buffer-lt-ANSWER_ROOM c = short c.from.result (omega arith) c.from.ensures

pub returns : goal.returns
returns c =
    let a = c.args in
    let long = c.if-buffer-lt-ANSWER_ROOM.false in
    let room =
    answer_room_lem a.buffer.now (told_answer a.a) long
    (record { number = search rules; place = search rules; numerator = search rules; denominator = search rules }) in
    printed (omega (arith, long)) (stands refl (landed (search rules) (c.answer_line.ensures.written room)))
