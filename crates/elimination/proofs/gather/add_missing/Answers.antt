use mathlib.Core.Path.{sym, ◌∙◌}
use Rattle.meaning.specs.Chain.{Chain}
use Rattle.survey.specs.Sets.{chain_in}
use Rattle.elimination.specs.Engine.{is_short}
use Rattle.elimination.proofs.Missing.{completed_whole, left_completable, left_completed}
use Rattle.elimination.proofs.gather.add_missing.Goals as goal
use Rattle.elimination.proofs.gather.add_missing.Goals.{Start}

abbrev chain : Start → Chain
chain s = chain_in s.args.e.now.given

pub returns-then-not-short : goal.returns-then-not-short
returns-then-not-short c =
    let e = c.args.e.now in
    completed_whole (chain (goal.at.returns-then-not-short c).Start) e.sets.live (is_short e.engine) c.args.work.now (sym c.short.ensures ∙ c.if-not-short.true)

pub complete_all-requires : goal.complete_all-requires
complete_all-requires c =
    left_completable (chain (goal.at.complete_all-requires c).Start) (is_short c.args.e.now.engine) (sym c.short.ensures ∙ c.if-not-short.false) c.requires.few _ c.missing-left.ensures _ c.requires

pub returns : goal.returns
returns c =
    let e = c.args.e.now in
    left_completed (chain (goal.at.returns c).Start) (is_short e.engine) (sym c.short.ensures ∙ c.if-not-short.false) c.requires.few _ c.missing-left.ensures e.sets.live _ _
    c.complete_all.ensures
