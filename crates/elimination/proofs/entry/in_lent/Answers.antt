use mathlib.Core.Path.{◌≡◌}
use mathlib.Core.List.{◌++◌}
use native.Mathlib.Omega.{arith}
use lib.ListN.{drop, replicate}
use Rattle.meaning.specs.Refusal.{work_size}
use Rattle.chain.specs.Given.{with}
use Rattle.elimination.specs.Engine.{is_paid, read_by}
use Rattle.elimination.specs.Table.{Kept}
use Rattle.elimination.proofs.Tables.{kept_more}
use Rattle.elimination.proofs.Cells.{zeros_whole, zeros_kept, zeros_at}
use Rattle.elimination.proofs.Follow.{cleared_kept}
use Rattle.elimination.proofs.Entries.{begun_beside, comes_beside}
use Rattle.elimination.proofs.entry.in_lent.Goals as goal
use Rattle.elimination.proofs.entry.in_lent.Goals.{After-clear_work}

-- The table is zero before the elimination.
zeros : (c : After-clear_work) → c.clear_work.new.work ≡ replicate (work_size c.args.g.now.chain.states) 0 ++ drop (work_size c.args.g.now.chain.states) c.args.work.now
zeros c = let h = c.requires.0.asked in zeros_whole _ _ (omega (arith, h.few)) h.room c.clear_work.ensures.table

pub course-r-requires : goal.course-r-requires
course-r-requires c =
    let a = c.args in
    let l = with a.g.now a.order.now (read_by (is_paid a.engine) a.rewards.now) a.work.now in
    let z = zeros (goal.at.course-r-requires c).After-clear_work in
    let zero = zeros_kept _ _ _ c.requires.0.asked.room z in
    (begun_beside {l = l} zero.len c.requires.0, c.requires.1, c.requires.2, zeros_at _ _ _ c.requires.0.asked.room z)

pub returns : goal.returns
returns c =
    let a = c.args in
    let h = c.requires.0.asked in
    let l = with a.g.now a.order.now (read_by (is_paid a.engine) a.rewards.now) a.work.now in
    let z = zeros (goal.at.returns c).After-clear_work in
    let k : Kept a.g.now.chain.states a.work.now c.course-r.new.work = kept_more (zeros_kept _ _ _ h.room z) c.course-r.ensures.0 in
    (cleared_kept l k (zeros_whole _ _ (omega (arith, h.few)) (omega (arith, h.room, k.len)) c.clear_work-2.ensures.table), comes_beside l.work 0 _ c.course-r.ensures.1)
