use mathlib.Core.Path.{refl}
use mathlib.Core.Logic.{inl}
use Rattle.std.proofs.lemmas.Result.{err_from_is_err_and}
use Rattle.meaning.specs.Chain.{most_states}
use Rattle.meaning.specs.Refusal.{Lent, work_size}
use Rattle.meaning.specs.Outcome.{cleared}
use Rattle.theory.specs.Numbers.Tab.{get_d_zeros}
use Rattle.theory.specs.Outcomes.Formed.{room}
use Rattle.elimination.specs.Engine.{is_paid, asks, read_by}
use Rattle.elimination.specs.Entered.{refused, came}
use Rattle.elimination.specs.Own.{ours}
use Rattle.elimination.proofs.Cells.{zeros_at, fresh_zeros}
use Rattle.elimination.proofs.Entries.{begun, comes_unlogged}
use Rattle.elimination.proofs.entry.with_own.Goals as goal
use Rattle.elimination.proofs.entry.with_own.Goals.{Start}

abbrev l : Start → Lent
l c =
    let a = c.args in
    ours a.g.now.chain a.g.now.denominators.now a.g.now.edges.now a.order.now (read_by (is_paid a.engine) a.rewards.now)

pub returns-in_err-sets : goal.returns-in_err-sets
returns-in_err-sets c =
    let p = err_from_is_err_and c.from_residual.result c.from_residual.ensures.1 in
    record { work = (l (goal.at.returns-in_err-sets c).Start).work; outcome = rw (p.1, p.2) (refused _ c.in_err-sets.ensures refl (inl refl)) }

pub course-requires : goal.course-requires
course-requires c =
    let g = c.args.engine in
    let m = l (goal.at.course-requires c).Start in
    let f = c.in_ok-sets.ensures in
    let r = room (asks g) m f.0 in
    (begun (asks g) g m f.0 _ refl refl refl f.1.right r, f.1, inl refl, zeros_at _ m.work m.work r (fresh_zeros _ m.work r (λ q. get_d_zeros (work_size most_states) q)))

pub returns : goal.returns
returns c =
    let m = l (goal.at.returns c).Start in
    let f = c.in_ok-sets.ensures in
    record { work = cleared m; outcome = came f.0 refl _ f.1.right (comes_unlogged c.course.ensures.1) }
