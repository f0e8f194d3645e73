use mathlib.Core.Path.{◌≡◌}
use borrow.Author.Rules.{rules}
use Rattle.opening.specs.Asked.{Asked}
use Rattle.figures.proofs.Traces.{refused_traced}
use Rattle.figures.proofs.steps.Goals as goal

pub returns-in-Err : goal.returns-in-Err
returns-in-Err c =
    elim c.in-Err.ensures [
      | Asked.refused x w e s ↦ let same : x ≡ c.in-Err.r = cc in refused_traced (rw (← same) w) c.no_trace.ensures
      | Asked.asked p s a ↦ search (rules, a.called, a.shows)
    ]
