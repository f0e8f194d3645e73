use Rattle.std.proofs.lemmas.Result.{err_from_is_err_and}
use Rattle.meaning.specs.File.{LengthFault}
use Rattle.meaning.specs.Salvage.{FrontRefused}
use Rattle.theory.specs.Numbers.Decide.{holds, fails}
use Rattle.octets.specs.Input.{input}
use Rattle.judge.proofs.begins.Goals as goal
use Rattle.judge.proofs.begins.Goals.{Else-length_wrong}

-- The length is right once it is passed.
whole : (c : Else-length_wrong) → LengthFault (input c.args.kept.now c.args.more) → ⊥
whole c = fails _ c.length_wrong.ensures c.if-length_wrong.false

pub returns-then-length_wrong : goal.returns-then-length_wrong
returns-then-length_wrong c =
    rw (c.from.ensures.0, c.from.ensures.1) (FrontRefused.length_wrong (holds _ c.length_wrong.ensures c.if-length_wrong.true))

pub returns-in_err-test : goal.returns-in_err-test
returns-in_err-test c =
    let p = err_from_is_err_and c.from_residual.result c.from_residual.ensures.1 in
    rw (p.1, p.2.0, p.2.1) (FrontRefused.head_wrong _ (whole (goal.at.returns-in_err-test c).Else-length_wrong) (c.in_err-test.ensures c.args.more))

pub returns-then-total_wrong : goal.returns-then-total_wrong
returns-then-total_wrong c =
    let e = c.at.ensures in
    rw (e.0, e.1)
    (FrontRefused.total_wrong (whole (goal.at.returns-then-total_wrong c).Else-length_wrong) (c.in_ok-test.ensures c.args.more) (holds _ c.total_wrong.ensures c.if-total_wrong.true))
