use Rattle.std.proofs.Common.{subst}
use Rattle.std.proofs.lemmas.Result.{err_from_is_err_and}
use Rattle.theory.specs.Files.Opened.{front_file}
use Rattle.octets.specs.Input.{input}
use Rattle.judge.specs.Tells.{further}
use Rattle.judge.proofs.Blocks.{judge}
use Rattle.judge.proofs.judge.Goals as goal

pub returns-in_err-begins : goal.returns-in_err-begins
returns-in_err-begins c =
    let p = err_from_is_err_and c.from_residual.result c.from_residual.ensures.1 in rw (p.1, p.2) (front_file c.in_err-begins.ensures)

pub returns : goal.returns
returns c =
    let f = input c.args.kept.now c.args.more in
    judge f c.in_ok-begins.ensures c.further.result
    (subst (λ z. further f z c.further.result) c.demanded.ensures.0 (c.further.ensures c.args.more))
