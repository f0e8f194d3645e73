use mathlib.Core.Path.{sym, ◌∙◌}
use Rattle.meaning.specs.Chain.{Chain}
use Rattle.meaning.specs.Step.{Sets}
use Rattle.survey.specs.Sets.{chain_in, sets_of}
use Rattle.elimination.specs.Engine.{rounds, is_paid, is_short}
use Rattle.elimination.proofs.FirstRows.{makeable_gatherable, makeable_completable, makeable_finishable, first_made}
use Rattle.elimination.proofs.first.first_rows.Goals as goal
use Rattle.elimination.proofs.first.first_rows.Goals.{Start}

-- The chain, and its sets.
abbrev chain : Start → Chain
chain s = chain_in s.args.e.now.given

abbrev k : Start → Sets
k s = sets_of s.args.e.now.sets

pub earnings-pay-requires : goal.earnings-pay-requires
earnings-pay-requires c =
    let m = (goal.at.earnings-pay-requires c).Start.requires.0 in
    record { earnable = λ p. m.paid (sym c.paid.ensures ∙ p); few_states = m.few }

pub gather-requires : goal.gather-requires
gather-requires c =
    let s = (goal.at.gather-requires c).Start in
    let a = s.args in
    (makeable_gatherable (chain s) (k s) (rounds a.e.now.engine) (is_paid a.e.now.engine) (is_short a.e.now.engine) a.rewards.now a.work.now s.requires.0, s.requires.1)

pub add_missing-requires : goal.add_missing-requires
add_missing-requires c =
    let s = (goal.at.add_missing-requires c).Start in
    let a = s.args in
    makeable_completable (chain s) (k s) (rounds a.e.now.engine) (is_paid a.e.now.engine) (is_short a.e.now.engine) a.rewards.now a.work.now s.requires.0 c.gather.ensures

pub finish_all-requires : goal.finish_all-requires
finish_all-requires c =
    let s = (goal.at.finish_all-requires c).Start in
    let a = s.args in
    let pay = rw c.paid.ensures at c.earnings-pay.ensures in
    rw c.rounding.ensures
    (makeable_finishable (chain s) (k s) (rounds a.e.now.engine) (is_paid a.e.now.engine) (is_short a.e.now.engine) a.rewards.now a.work.now s.requires.0
    c.gather.ensures c.add_missing.ensures c.earnings-pay.result pay)

pub returns : goal.returns
returns c =
    let s = (goal.at.returns c).Start in
    let a = s.args in
    let pay = rw c.paid.ensures at c.earnings-pay.ensures in
    first_made (chain s) (k s) (rounds a.e.now.engine) (is_paid a.e.now.engine) (is_short a.e.now.engine) a.rewards.now a.work.now s.requires.0
    c.gather.ensures c.add_missing.ensures c.earnings-pay.result pay
    c.finish_all.result (rw c.rounding.ensures at c.finish_all.ensures)
