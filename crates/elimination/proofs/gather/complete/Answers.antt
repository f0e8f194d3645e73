use mathlib.Core.Path.{sym, ◌∙◌}
use borrow.Author.Tests.{eqb-true, eqb-false}
use Rattle.elimination.proofs.Missing.{completed_none, completed_one}
use Rattle.elimination.proofs.gather.complete.Goals as goal

pub returns-then-not-holds : goal.returns-then-not-holds
returns-then-not-holds c =
    let a = c.args in
    completed_none a.n a.live a.i a.x a.work.now (eqb-false _ _ (sym c.holds.ensures ∙ c.if-not-holds.true))

pub returns : goal.returns
returns c =
    let a = c.args in
    let h = c.requires in
    completed_one a.n a.live a.i a.x a.work.now _ h.1 h.2
    (eqb-true _ _ (sym c.holds.ensures ∙ c.if-not-holds.false))
    c.add.ensures
