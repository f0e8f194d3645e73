use Rattle.std.proofs.Common.{[], refl, arith}
use Rattle.meaning.specs.Refusal.{Lent}
use Rattle.meaning.specs.Near.{NearOutcome}
use Rattle.meaning.specs.Miss.{MissOutcome}
use Rattle.meaning.specs.Outcome.{refused, answered}
use Rattle.chain.specs.Given.{with}
use Rattle.look.proofs.Refuse.{handed}
use Rattle.elimination.proofs.Cells.{zeros_whole}
use Rattle.elimination.proofs.Follow.{cleared_kept}
use Rattle.elimination.proofs.Tables.{kept_more}
use Rattle.near.specs.Answer.{told_near, told_miss}
use Rattle.near.specs.Entry.{Begun}
use Rattle.near.proofs.Laid.{laid_refused, laid_rows, begun}
use Rattle.near.proofs.Last.{near_lent, miss_lent}
use Rattle.near.proofs.entry.near.Goals as goal
use Rattle.near.proofs.entry.near.Goals.{Start, In_ok-sets}

-- What the entry is lent.
abbrev lends : Start → Lent
lends s = let a = s.args in with a.g.now a.order.now [] a.work.now

-- The rows are laid out.
starts : (c : In_ok-sets) → let a = c.args in
    Begun a.g.now.chain c.in_ok-sets.sets a.g.now.denominators.now a.g.now.edges.now a.order.now c.lay.new.work
starts c =
    let a = c.args in
    let f = laid_rows {l = with a.g.now a.order.now [] a.work.now} c.lay.ensures c.in_ok-sets.was in
    begun a.g.now.chain a.g.now.denominators.now a.g.now.edges.now a.order.now a.work.now _ f.0 f.1 f.2

pub follow-found-requires : goal.follow-found-requires
follow-found-requires c =
    let g = c.args.g.now in
    (g.denominators.now, (g.edges.now, starts (goal.at.follow-found-requires c).In_ok-sets))

pub returns-in_err-sets : goal.returns-in_err-sets
returns-in_err-sets c =
    let l = lends (goal.at.returns-in_err-sets c).Start in
    let w = c.lay.new.work in
    let f = laid_refused {l = l} c.lay.ensures c.in_err-sets.was in
    handed (λ r. NearOutcome l (told_near r) w × MissOutcome l (told_miss r) w) _ _ c.from_residual.ensures.1 (refused _ _ f.0 refl f.1, refused _ _ f.0 refl f.1)

pub returns : goal.returns
returns c =
    let a = c.args in
    let l = lends (goal.at.returns c).Start in
    let f = laid_rows {l = l} c.lay.ensures c.in_ok-sets.was in
    let r = c.follow-found.ensures.1 a.g.now.denominators.now a.g.now.edges.now (starts (goal.at.returns c).In_ok-sets) in
    let b = starts (goal.at.returns c).In_ok-sets in
    let z = zeros_whole _ _ b.walks.few (omega (arith, b.room, c.follow-found.ensures.0.len)) c.clear_work.ensures.table in
    let zero = cleared_kept l (kept_more f.2.kept c.follow-found.ensures.0) z in
    (answered f.0 (λ _ _ s. s) (near_lent r.0) zero, answered f.0 (λ _ _ s. s) (miss_lent r.1) zero)
