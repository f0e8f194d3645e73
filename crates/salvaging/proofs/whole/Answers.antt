use native.Mathlib.Omega.{arith}
use mathlib.Core.Path.{refl}
use borrow.Author.Rules.{rules}
use Rattle.std.proofs.lemmas.Result.{err_from_is_err_and}
use Rattle.text.proofs.Paging.{landed}
use Rattle.salvaging.proofs.Printed.{whole_line, whole_refusal}
use Rattle.salvaging.proofs.whole.Goals as goal

pub returns-in_err-bounds : goal.returns-in_err-bounds
returns-in_err-bounds c = λ f accepted e.
    let p = err_from_is_err_and c.from_residual.result c.from_residual.ensures.1 in
    rw (p.1, p.2) (whole_refusal accepted e _ c.in_err-bounds.ensures, refl)

pub returns : goal.returns
returns c = λ f accepted e.
    let line = c.bounds_line.ensures in
    whole_line accepted e c.in_ok-bounds.ensures (landed (search rules) (line.0.written (omega (arith, c.requires, line.1))))
