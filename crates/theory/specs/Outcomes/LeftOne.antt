-- The entry for the bounds of what is left has an outcome for every input, and always answers two fractions.
use Rattle.std.specs.Prelude.{ℕ, ◌≡◌, refl, true, List}
use Rattle.meaning.specs.Number.{Lowest}
use Rattle.meaning.specs.Chain.{Chain, End, begin, LiveTo}
use Rattle.meaning.specs.Refusal.{Lent, WellFormed}
use Rattle.meaning.specs.Outcome.{refused, stopped, answered, Bounds, no_bounds, between, BoundsFigure, BoundsStop}
use Rattle.meaning.specs.Left.{short_rows, LeftOutcome}
use Rattle.theory.specs.Numbers.Gcd.{fraction_reduced}
use Rattle.theory.specs.Chains.Path.{dec_goal, dec_path_to}
use Rattle.theory.specs.Outcomes.Computed.{Computed, computed, figure}
use Rattle.theory.specs.Outcomes.Determined.{refused_unformed}
use Rattle.theory.specs.Outcomes.LeftFormed.{dec_end, left_right_exists}
use Rattle.theory.specs.Outcomes.Whole.{last_whole, one_lowest}

module _ (l : Lent) (formed : WellFormed short_rows l) where
  abbrev c : Chain
  c = l.chain

  -- Two fractions there always are.
  left_figure : (a : Bounds) × BoundsFigure true l a
  left_figure =
      elim (dec_goal c c.start) [
        | yes g ↦ (between 1 1 1 1, BoundsFigure.won g refl)
        | no g ↦ elim (dec_path_to c.edges (End true c) (dec_end l formed) c.start) [
          | no h ↦ (between 0 1 0 1, BoundsFigure.lost h refl)
          | yes p ↦ live_figure (record { unwon = g; reached = begin; leads = p })
        ]
      ]
    where
      live_figure : LiveTo c (End true c) c.start → (a : Bounds) × BoundsFigure true l a
      live_figure alive =
          let (k, right) = left_right_exists l formed in
          let whole = last_whole short_rows l formed refl k right alive in
          (_, BoundsFigure.live k right alive _ _ _ _ (fraction_reduced _ _ whole, fraction_reduced _ _ whole) refl)

pub left_outcome : (l : Lent) → Computed short_rows l no_bounds BoundsStop (BoundsFigure true l)
left_outcome l =
    computed short_rows l no_bounds BoundsStop (BoundsFigure true l) (λ f.
    let g = left_figure l f in figure (λ number place s. s) g.0 g.1)

-- Two fractions, each in lowest terms.
pub record TwoLowest (a : Bounds) : Type 0 where
  pub answers : a.number ≡ 0
  pub lower : Lowest a.lower_numerator a.lower_denominator
  pub upper : Lowest a.upper_numerator a.upper_denominator

pub left_answers : {l : Lent} {a : Bounds} {w : List ℕ} → WellFormed short_rows l → LeftOutcome l a w → TwoLowest a
left_answers formed (refused n p r e s) = absurd (refused_unformed r formed)
left_answers formed (stopped n p f t e s) = absurd t
left_answers formed (answered f t (BoundsFigure.won g e) s) = rw e (record { answers = refl; lower = one_lowest 1; upper = one_lowest 1 })
left_answers formed (answered f t (BoundsFigure.lost h e) s) = rw e (record { answers = refl; lower = one_lowest 0; upper = one_lowest 0 })
left_answers formed (answered f t (BoundsFigure.live k r v p q u z b e) s) =
    rw e (record { answers = refl; lower = b.0.lowest; upper = b.1.lowest })
