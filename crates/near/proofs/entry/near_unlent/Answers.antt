use Rattle.std.proofs.Common.{[], replicate, refl}
use Rattle.meaning.specs.Chain.{most_states}
use Rattle.meaning.specs.Refusal.{Lent, work_size}
use Rattle.meaning.specs.Near.{NearOutcome}
use Rattle.meaning.specs.Miss.{MissOutcome}
use Rattle.meaning.specs.Outcome.{cleared, refused, answered}
use Rattle.chain.specs.Given.{with}
use Rattle.look.proofs.Refuse.{handed}
use Rattle.elimination.specs.Own.{Found}
use Rattle.near.specs.Answer.{told_near, told_miss}
use Rattle.near.specs.Entry.{Begun}
use Rattle.near.proofs.Laid.{laid_refused, laid_rows, begun}
use Rattle.near.proofs.Last.{near_lent, miss_lent}
use Rattle.near.proofs.entry.near_unlent.Goals as goal
use Rattle.near.proofs.entry.near_unlent.Goals.{Start, In_ok-sets}

-- What is lent, with the work table that is the entry's own.
abbrev lends : Start → Lent
lends s = with s.args.g.now s.args.order.now [] (replicate (work_size most_states) 0)

-- The rows are laid out.
starts : (c : In_ok-sets) → let a = c.args in
    Begun a.g.now.chain c.in_ok-sets.sets a.g.now.denominators.now a.g.now.edges.now a.order.now c.lay.new.work
starts c =
    let a = c.args in
    let f = laid_rows {l = with a.g.now a.order.now [] (replicate (work_size most_states) 0)} c.lay.ensures c.in_ok-sets.was in
    begun a.g.now.chain a.g.now.denominators.now a.g.now.edges.now a.order.now (replicate (work_size most_states) 0) _ f.0 f.1 f.2

pub follow-requires : goal.follow-requires
follow-requires c =
    let g = c.args.g.now in
    (g.denominators.now, (g.edges.now, starts (goal.at.follow-requires c).In_ok-sets))

pub returns-in_err-sets : goal.returns-in_err-sets
returns-in_err-sets c =
    let l = lends (goal.at.returns-in_err-sets c).Start in
    let f = laid_refused {l = l} c.lay.ensures c.in_err-sets.was in
    handed (λ r. Found (NearOutcome l) (told_near r) × Found (MissOutcome l) (told_miss r)) _ _ c.from_residual.ensures.1
    (record { work = _; outcome = refused _ _ f.0 refl f.1 }, record { work = _; outcome = refused _ _ f.0 refl f.1 })

pub returns : goal.returns
returns c =
    let g = c.args.g.now in
    let l = lends (goal.at.returns c).Start in
    let f = laid_rows {l = l} c.lay.ensures c.in_ok-sets.was in
    let r = c.follow.ensures.1 g.denominators.now g.edges.now (starts (goal.at.returns c).In_ok-sets) in
    let done = cleared l in (
      record { work = done; outcome = answered f.0 (λ _ _ z. z) (near_lent r.0) refl },
      record { work = done; outcome = answered f.0 (λ _ _ z. z) (miss_lent r.1) refl },
    )
