use mathlib.Core.Path.{sym, subst, ◌∙◌}
use mathlib.Core.Bool.{false}
use mathlib.Core.List.{List, []}
use Prim.Native.Nat.{ℕ}
use Rattle.meaning.specs.Refusal.{eliminating, Lent}
use Rattle.chain.specs.Given.{with}
use Rattle.survey.specs.Looking.{looked}
use Rattle.elimination.proofs.Engines.{looked_paid, looked_unpaid}
use Rattle.elimination.proofs.entry.look_for.Goals as goal
use Rattle.elimination.proofs.entry.look_for.Goals.{After-paid}

abbrev l : After-paid → List ℕ → Lent
l c rewards = let a = c.args in with a.g.now a.order.now rewards a.work.now

pub returns-then-paid : goal.returns-then-paid
returns-then-paid c =
    let a = c.args in
    looked_paid (l (goal.at.returns-then-paid c).After-paid) a.rewards.now c.look_paid.result a.engine (sym c.paid.ensures ∙ c.if-paid.true) c.look_paid.ensures

pub returns : goal.returns
returns c =
    let a = c.args in
    looked_unpaid (l (goal.at.returns c).After-paid) a.rewards.now c.look.result a.engine (sym c.paid.ensures ∙ c.if-paid.false)
    (subst (λ s. looked (eliminating false false s) (l (goal.at.returns c).After-paid []) c.look.result) c.short.ensures c.look.ensures)
