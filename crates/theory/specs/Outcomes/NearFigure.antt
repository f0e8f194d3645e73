-- What is answered of a well-formed input is a figure, of the chance and of missing.
use Rattle.std.specs.Prelude.{ℕ, List}
use Rattle.meaning.specs.Refusal.{Lent, plain, WellFormed}
use Rattle.meaning.specs.Outcome.{refused, stopped, answered}
use Rattle.meaning.specs.Near.{Near, NearFigure, NearOutcome}
use Rattle.meaning.specs.Miss.{MissFigure, MissOutcome}

module _ (l : Lent) (formed : WellFormed plain l) where
  pub near_figure : {a : Near} {w : List ℕ} → NearOutcome l a w → NearFigure l a
  near_figure (refused n p r e s) = absurd (formed.none n p r.applies)
  near_figure (stopped n p f t e s) = absurd t
  near_figure (answered f t g s) = g

  pub miss_figure : {a : Near} {w : List ℕ} → MissOutcome l a w → MissFigure l a
  miss_figure (refused n p r e s) = absurd (formed.none n p r.applies)
  miss_figure (stopped n p f t e s) = absurd t
  miss_figure (answered f t g s) = g
