use Rattle.std.proofs.Common.{refl}
use Rattle.std.proofs.lemmas.Result.{err_from_is_err_and}
use Rattle.meaning.specs.File.{Short}
use Rattle.meaning.specs.Salvage.{SalvageOutcome}
use Rattle.theory.specs.Numbers.Decide.{fails}
use Rattle.chainfile.specs.Input.{input}
use Rattle.chainfile.specs.Tells.{tables}
use Rattle.chainfile.proofs.Tested.{within, opened}
use Rattle.chainfile.proofs.salvage.Goals as goal
use Rattle.chainfile.proofs.salvage.Goals.{Else-short}

-- No table is short once that is passed.
long : (c : Else-short) → let a = c.args in Short (tables a.denominators.now a.edges.now a.order.now a.rewards.now) → ⊥
long c = let a = c.args in fails (Short (tables a.denominators.now a.edges.now a.order.now a.rewards.now)) c.short.ensures c.if-short.false

pub returns-in_err-front : goal.returns-in_err-front
returns-in_err-front c =
    let p = err_from_is_err_and c.from_residual.result c.from_residual.ensures.1 in
    rw (p.1, p.2) (SalvageOutcome.refused (long (goal.at.returns-in_err-front c).Else-short) _ _ c.in_err-front.ensures refl refl)

pub leave-requires-clause-within : goal.leave-requires-clause-within
leave-requires-clause-within c = within (input c.args.kept.now c.args.more) c.in_ok-front.ensures.blocks

pub returns : goal.returns
returns c =
    let f = input c.args.kept.now c.args.more in
    let o = c.leave.ensures f.more in
    SalvageOutcome.opened (long (goal.at.returns c).Else-short) _ o.verdicts.size (opened f _ c.in_ok-front.ensures o.verdicts) o.answer o.tables
