use native.Mathlib.Omega.{arith}
use mathlib.Core.Path.{refl}
use borrow.Author.Rules.{rules}
use Rattle.figures.specs.Told.{told_answer}
use Rattle.text.proofs.Paging.{landed}
use Rattle.report.proofs.Lengths.{face_room_lem}
use Rattle.report.proofs.Refusals.{short, stands, printed}
use Rattle.report.proofs.face.Goals as goal

pub returns-then-buffer-lt-FACE_ROOM : goal.returns-then-buffer-lt-FACE_ROOM
returns-then-buffer-lt-FACE_ROOM c = short c.from.result (omega arith) c.from.ensures

pub returns : goal.returns
returns c =
    let a = c.args in
    let long = c.if-buffer-lt-FACE_ROOM.false in
    let room =
    face_room_lem a.buffer.now a.face (told_answer a.chance) long (search rules)
    (record { number = search rules; place = search rules; numerator = search rules; denominator = search rules }) in
    printed (omega (arith, long)) (stands refl (landed (search rules) (c.face_line.ensures.written room)))
