use Rattle.meaning.specs.FileLimit.{FileLimit}
use Rattle.chainfile.specs.Input.{input}
use Rattle.limit.specs.Told.{told}
use Rattle.look.proofs.Refuse.{handed}
use Rattle.limitfile.specs.Told.{told_limited}
use Rattle.limitfile.proofs.Judged.{exact_few, limit_refused, limit_judged}
use Rattle.limitfile.proofs.asked.Goals as goal

pub decided-requires : goal.decided-requires
decided-requires c = (c.requires, exact_few c.chance-exact.result c.chance-exact.ensures)

pub returns-in_err-chance : goal.returns-in_err-chance
returns-in_err-chance c =
    let a = c.args in
    handed (λ r. FileLimit (input a.kept.now a.more) (told a.m) (told_limited r)) _ _ c.from_residual.ensures.1
    (limit_refused c.requires c.near.result c.near.ensures c.in_err-chance.was)

pub returns : goal.returns
returns c =
    limit_judged c.requires c.near.result c.near.ensures c.chance-exact.result c.in_ok-chance.was c.chance-exact.ensures c.decided.ensures
