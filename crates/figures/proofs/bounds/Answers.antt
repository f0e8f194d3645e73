use mathlib.Core.Path.{refl}
use borrow.Author.Rules.{rules}
use Rattle.meaning.specs.Outcome.{no_bounds, BoundsOutcome}
use Rattle.engines.specs.Answer.{told_bounds}
use Rattle.figures.proofs.Outcomes.{file_found}
use Rattle.figures.proofs.bounds.Goals as goal

pub returns : goal.returns
returns c = file_found c.with.result told_bounds no_bounds BoundsOutcome (λ x. refl) (λ p a. search (rules, a.called, a.shows)) c.with.ensures
