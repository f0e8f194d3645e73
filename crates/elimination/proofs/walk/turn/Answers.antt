use mathlib.Core.Path.{sym, ◌∙◌}
use Rattle.meaning.specs.Step.{removed}
use Rattle.elimination.specs.Engine.{rounds}
use Rattle.elimination.specs.Table.{table_of}
use Rattle.elimination.specs.Order.{going}
use Rattle.elimination.proofs.Turns.{made_goes, made_stays}
use Rattle.elimination.proofs.walk.turn.Goals as goal

pub returns-then-not-goes : goal.returns-then-not-goes
returns-then-not-goes c =
    let a = c.args in
    let n = a.e.now.given.chain.states in
    let t = table_of n a.work.now in
    let e = sym c.goes.ensures ∙ c.if-not-goes.true in
    (made_stays (removed (rounds a.e.now.engine) n a.s t) (going a.e.now a.s) e c.requires.0, λ rs h. rw e h)

pub returns : goal.returns
returns c =
    let a = c.args in
    let e = sym c.goes.ensures ∙ c.if-not-goes.false in
    let z = rw c.rounding.ensures at c.remove_noted.ensures in
    (made_goes (table_of a.e.now.given.chain.states a.work.now) (going a.e.now a.s) e z.0, rw e z.1)

pub remove_noted-requires : goal.remove_noted-requires
remove_noted-requires c = rw c.rounding.ensures c.requires
