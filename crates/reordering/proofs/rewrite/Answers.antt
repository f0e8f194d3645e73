use Rattle.std.proofs.lemmas.Result.{err_from_is_err_and}
use lib.Seq.{length-take-le}
use Rattle.reordering.proofs.Rewriting.{choice_refuses, choice_written}
use Rattle.reordering.proofs.rewrite.Goals as goal

pub returns-in_err-choose : goal.returns-in_err-choose
returns-in_err-choose c =
    let p = err_from_is_err_and c.from_residual.result c.from_residual.ensures.1 in
    rw (p.1, p.2)
    (record { of_file = λ f b s. choice_refuses b s _ (length-take-le _ _ c.requires.0) _ c.requires.1 c.in_err-choose.field-0.0 c.in_err-choose.ensures })

pub returns : goal.returns
returns c =
    record { of_file = λ f b s. choice_written b s _ (length-take-le _ _ c.requires.0) _ c.requires.1 c.in_ok-choose.field-0 c.in_ok-choose.ensures c.write.ensures }
