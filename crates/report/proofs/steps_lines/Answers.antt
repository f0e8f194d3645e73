use mathlib.Core.Path.{refl, ap}
use Rattle.std.proofs.lemmas.Result.{err_from_is_err_and}
use native.Mathlib.Omega.{arith}
use lib.ListN.{length, length-append}
use Rattle.octets.proofs.Steps.{join, kept}
use Rattle.meaning.specs.Text.{bytes_of}
use Rattle.meaning.specs.Report.{answer_text}
use Rattle.figures.specs.Told.{told_answer}
use Rattle.report.proofs.Lengths.{answer_wide}
use Rattle.report.proofs.Room.{wide, retold}
use Rattle.report.proofs.Lasting.{lasts_chance}
use Rattle.report.proofs.StepsText.{steps_line, steps_last}
use Rattle.text.proofs.Paging.{landed}
use borrow.Author.Rules.{rules}
use Rattle.report.proofs.Refusals.{stands}
use Rattle.report.proofs.steps_lines.Goals as goal

pub returns-in_err-ended : goal.returns-in_err-ended
returns-in_err-ended c =
    let p = err_from_is_err_and c.from_residual.result c.from_residual.ensures.1 in
    rw (p.1, p.2) (steps_line c.steps-t.ensures.outcome c.in_err-ended.ensures, refl)

pub record_lines-requires : goal.record_lines-requires
record_lines-requires c = (refl, omega (arith, c.requires), c.steps-t.ensures.few)

pub returns : goal.returns
returns c =
    let records = c.record_lines.ensures.written in
    let same = kept records.0 in
    let short = answer_wide (told_answer c.from.result) (wide c.from.ensures) in
    let line = retold (bytes_of "chance ") c.from.ensures c.answer_line.ensures in
    stands (steps_last c.steps-t.ensures.outcome (lasts_chance c.steps-t.result.chance c.in_ok-ended.ensures))
    (landed (search rules) (join records.0 (line.written (simp length-append (omega (arith, c.requires, records.1, short, ap (λ a. length (answer_text a)) c.from.ensures.same))))))
