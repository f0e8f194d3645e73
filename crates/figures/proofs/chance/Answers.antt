use mathlib.Core.Path.{refl}
use borrow.Author.Rules.{rules}
use Rattle.meaning.specs.Outcome.{refusal, ChanceOutcome}
use Rattle.engines.specs.Answer.{told_chance}
use Rattle.figures.proofs.Outcomes.{file_found}
use Rattle.figures.proofs.chance.Goals as goal

pub returns : goal.returns
returns c = file_found c.with.result told_chance refusal ChanceOutcome (λ x. refl) (λ p a. search (rules, a.called, a.shows)) c.with.ensures
