use mathlib.Core.Path.{refl}
use mathlib.Core.Logic.{inl}
use Rattle.std.proofs.lemmas.Result.{err_from_is_err_and}
use Rattle.meaning.specs.Refusal.{Lent}
use Rattle.theory.specs.Outcomes.Formed.{room}
use Rattle.chain.specs.Given.{with}
use Rattle.elimination.specs.Engine.{is_paid, asks, read_by}
use Rattle.elimination.specs.Entered.{refused, came}
use Rattle.elimination.proofs.Entries.{begun, comes_unlogged}
use Rattle.elimination.proofs.entry.with_lent.Goals as goal
use Rattle.elimination.proofs.entry.with_lent.Goals.{Start}

abbrev l : Start → Lent
l c = let a = c.args in with a.g.now a.order.now (read_by (is_paid a.engine) a.rewards.now) a.work.now

pub returns-in_err-sets : goal.returns-in_err-sets
returns-in_err-sets c =
    let p = err_from_is_err_and c.from_residual.result c.from_residual.ensures.1 in
    rw (p.1, p.2) (refused _ c.in_err-sets.ensures refl (inl refl))

pub in_lent-requires : goal.in_lent-requires
in_lent-requires c =
    let g = c.args.engine in
    let l = l (goal.at.in_lent-requires c).Start in
    let f = c.in_ok-sets.ensures in
    (begun (asks g) g l f.0 _ refl refl refl f.1.right (room (asks g) l f.0), f.1, inl refl)

pub returns : goal.returns
returns c =
    let f = c.in_ok-sets.ensures in
    came f.0 c.in_lent.ensures.0 _ f.1.right (comes_unlogged c.in_lent.ensures.1)
