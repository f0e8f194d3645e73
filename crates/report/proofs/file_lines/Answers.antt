use mathlib.Core.Path.{refl}
use Rattle.std.proofs.lemmas.Result.{err_from_is_err_and}
use Rattle.meaning.specs.Report.{Report}
use Rattle.report.proofs.ChainLines.{reward_line, formed, bounded, lines_room, lines_report}
use Rattle.text.proofs.Paging.{landed}
use borrow.Author.Rules.{rules}
use Rattle.report.proofs.Refusals.{stands}
use Rattle.report.proofs.file_lines.Goals as goal

pub returns-in_err-found : goal.returns-in_err-found
returns-in_err-found c =
    let p = err_from_is_err_and c.from_residual.result c.from_residual.ensures.1 in
    rw (p.1, p.2) (Report.file_refused _ _ c.in_err-found.ensures refl, refl)

pub returns-in_err-ended : goal.returns-in_err-ended
returns-in_err-ended c =
    let (a, x) = c.in_ok-found.ensures in
    let p = err_from_is_err_and c.from_residual-in_err-ended.result c.from_residual-in_err-ended.ensures.1 in
    rw (p.1, p.2) (reward_line a x c.in_err-ended.ensures, refl)

pub returns-in_err-bounds : goal.returns-in_err-bounds
returns-in_err-bounds c = let (a, x) = c.in_ok-found.ensures in absurd (bounded (formed a x c.in_ok-ended.ensures) x c.in_err-bounds.was)

pub returns : goal.returns
returns c =
    let (a, x) = c.in_ok-found.ensures in
    let f = formed a x c.in_ok-ended.ensures in
    stands (lines_report f x c.in_ok-bounds.was a) (landed (search rules) (c.seven_lines.ensures.written (lines_room f x c.in_ok-bounds.was c.args.buffer.now c.requires)))
