use mathlib.Core.Path.{sym, ◌∙◌}
use Rattle.meaning.specs.Refusal.{Lent}
use Rattle.theory.specs.Numbers.Decide.{holds, fails}
use Rattle.chain.specs.Given.{with}
use Rattle.elimination.specs.Engine.{is_paid, read_by}
use Rattle.elimination.specs.Entered.{missed, ran}
use Rattle.elimination.proofs.Engines.{misses_paid, paid_misses}
use Rattle.elimination.proofs.Tables.{kept_same}
use Rattle.elimination.proofs.entry.course.Goals as goal
use Rattle.elimination.proofs.entry.course.Goals.{Start}

abbrev l : Start → Lent
l c =
    let a = c.args in
    with a.g.now a.order.now (read_by (is_paid a.engine) a.rewards.now) a.work.now

pub returns-then-endless : goal.returns-then-endless
returns-then-endless c =
    let a = c.args in
    let h = c.endless.ensures.0 c.if-endless.true in
    let p = sym c.paid.ensures ∙ h.0 in
    (kept_same a.g.now.chain.states a.work.now, missed p (misses_paid a.engine (l (goal.at.returns-then-endless c).Start).chain p (holds _ c.requires.1.missed h.1)))

pub run-requires : goal.run-requires
run-requires c = (c.requires.0, c.requires.2, c.requires.3)

pub returns : goal.returns
returns c =
    let a = c.args in
    let z = c.run.ensures in (
      z.0,
      ran
          (λ p m.
          fails _ c.requires.1.missed (c.endless.ensures.1 c.if-endless.false (c.paid.ensures ∙ p)) (paid_misses a.engine (l (goal.at.returns c).Start).chain p m))
          z.1
          z.2,
    )
