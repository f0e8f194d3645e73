use mathlib.Core.Path.{sym, ◌∙◌}
use native.Mathlib.Omega.{arith}
use borrow.Author.Tests.{eqb-true, eqb-false}
use Rattle.survey.specs.Sets.{sets_of}
use Rattle.elimination.proofs.Cells.{added_none, added_some}
use Rattle.elimination.proofs.gather.carry.Goals as goal

pub holds-requires : goal.holds-requires
holds-requires c =
    let h = c.requires in
    omega (arith, h.few, h.source, c.from-i.ensures)

pub returns-then-not-holds : goal.returns-then-not-holds
returns-then-not-holds c =
    let a = c.args in
    let f = c.from-i.ensures in
    let d = eqb-false _ _ (sym c.holds.ensures ∙ c.if-not-holds.true) in
    added_none a.n (sets_of a.sets) a.edges.now a.e a.work.now (λ l. d (rw (← f) at l))

pub column-j-requires : goal.column-j-requires
column-j-requires c =
    let h = c.requires in
    (rw c.to.ensures h.target, h.few)

pub add-requires : goal.add-requires
add-requires c =
    let h = c.requires in
    let f = c.from-i.ensures in
    let j = c.column-j.ensures.1 in
    (h.few, h.room, rw f h.source, j, rw (f, c.weight.ensures) (h.small _ j))

pub returns : goal.returns
returns c =
    let a = c.args in
    let h = c.requires in
    let f = c.from-i.ensures in
    let t = c.to.ensures in
    let j = c.column-j.ensures in
    let l = c.weight.ensures in
    added_some a.n (sets_of a.sets) a.edges.now a.e a.work.now _ h.room _ _ _ (rw f h.source) j.1
    (eqb-true _ _ (sym c.holds.ensures ∙ c.if-not-holds.false)) f (rw t at j.0) l
    c.add.ensures
