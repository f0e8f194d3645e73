use Rattle.std.proofs.Common.{refl, ◌∙◌, arith}
use Rattle.std.proofs.lemmas.Result.{err_from_is_err_and}
use Rattle.theory.specs.Numbers.Decide.{fails}
use Rattle.chainfile.specs.Input.{input}
use Rattle.chainfile.specs.Tells.{Within, Narrow, OpenOutcome, tables}
use Rattle.chainfile.proofs.Tested.{within}
use Rattle.chainfile.proofs.Filling.{narrow_for}
use Rattle.chainfile.proofs.Saving.{nothing_lost}
use Rattle.chainfile.proofs.open_file.Goals as goal
use Rattle.chainfile.proofs.open_file.Goals.{In_ok-judge}

-- The front of an accepted file is right.
inside : (c : In_ok-judge) → Within (input c.args.kept.now 0)
inside c = within (input c.args.kept.now c.args.more) (λ b h. c.in_ok-judge.ensures.blocks b (omega arith))

pub returns-in_err-judge : goal.returns-in_err-judge
returns-in_err-judge c =
    let p = err_from_is_err_and c.from_residual.result c.from_residual.ensures.1 in rw (p.1, p.2) (OpenOutcome.refused _ _ c.in_err-judge.ensures refl refl)

pub tables-requires-clause-within : goal.tables-requires-clause-within
tables-requires-clause-within c = inside (goal.at.tables-requires-clause-within c).In_ok-judge

pub chain-requires : goal.chain-requires
chain-requires c = inside (goal.at.chain-requires c).In_ok-judge

pub returns : goal.returns
returns c =
    let a = c.args in
    let f = input a.kept.now a.more in
    let before = tables a.denominators.now a.edges.now a.order.now a.rewards.now in
    let chain = c.chain.ensures in
    let edges = c.edges-2.ensures.0 in
    OpenOutcome.accepted c.in_ok-judge.ensures
    (fails (Narrow f before) (narrow_for f before c.short_for.result c.states.ensures.0 c.edges.ensures.0 c.short_for.ensures) c.if-short_for.false)
    (λ i. record { number = 0; place = 0; states = chain.0 i; start = chain.1 i; goals = chain.2 i; edges = edges i })
    (c.tables.ensures.0 ∙ nothing_lost f before)
