use mathlib.Core.Path.{ap, subst}
use borrow.Author.Rules.{rules}
use Rattle.meaning.specs.Within.{WithinOutcome, file_refused, asked}
use Rattle.equations.specs.Told.{told}
use Rattle.opening.specs.Asked.{Asked}
use Rattle.figures.proofs.Outcomes.{bare, bare_of}
use Rattle.figures.proofs.within.Goals as goal

pub returns : goal.returns
returns c =
    let few = c.if-steps-gt-STEPS.false in
    elim c.with.ensures [
      | Asked.refused x w e s ↦ file_refused few _ _ w (ap told e)
      | Asked.asked p s a ↦
          let o : WithinOutcome (bare_of p) c.args.steps (told c.with.result) = search (rules, a.called, a.shows) in
          asked s.holds.accepted (subst (λ l. WithinOutcome l c.args.steps (told c.with.result)) (bare s.holds) o)
    ]
