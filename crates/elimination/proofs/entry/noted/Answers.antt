use mathlib.Core.Path.{refl}
use mathlib.Core.List.{[]}
use Rattle.std.proofs.lemmas.Result.{err_from_is_err_and}
use Rattle.meaning.specs.Refusal.{Lent, with_list, listing}
use Rattle.theory.specs.Outcomes.Formed.{room}
use Rattle.chain.specs.Given.{with}
use Rattle.elimination.specs.Entered.{refused, came}
use Rattle.elimination.specs.declared.engine.Engine.TheVariants.{Chance}
use Rattle.elimination.proofs.Entries.{begun, begun_beside, comes_beside}
use Rattle.elimination.proofs.entry.noted.Goals as goal
use Rattle.elimination.proofs.entry.noted.Goals.{Start}

abbrev l : Start → Lent
l c = let a = c.args in with_list a.list (with a.g.now a.order.now [] a.work.now)

pub returns-in_err-sets : goal.returns-in_err-sets
returns-in_err-sets c =
    let p = err_from_is_err_and c.from_residual.result c.from_residual.ensures.1 in
    rw (p.1, p.2) (refused _ c.in_err-sets.ensures refl c.requires)

pub in_lent-requires : goal.in_lent-requires
in_lent-requires c =
    let l = l (goal.at.in_lent-requires c).Start in
    let f = c.in_ok-sets.ensures in
    (begun_beside {l = l} refl (begun listing Chance l f.0 _ refl refl refl f.1.right (room listing l f.0)), f.1, c.requires)

pub returns : goal.returns
returns c =
    let l = l (goal.at.returns c).Start in
    let f = c.in_ok-sets.ensures in
    came f.0 c.in_lent.ensures.0 _ f.1.right (comes_beside l.work l.list _ c.in_lent.ensures.1)
