-- Each of the four entries has one outcome for one input, work table included.
use Rattle.std.specs.Prelude.{ℕ, ◌<◌, ◌≡◌, refl, Bool, true, false, List}
use Rattle.std.proofs.Common.{sym, ap₂, subst, ◌∙◌}
use Rattle.meaning.specs.Chain.{Chain, PathTo}
use Rattle.meaning.specs.Row.{Row, exact}
use Rattle.meaning.specs.Step.{outside}
use Rattle.meaning.specs.Refusal.{Lent, Entry, plain, paid, WellFormed}
use Rattle.meaning.specs.Stop.{earns, Stops, Stopped}
use Rattle.meaning.specs.Outcome.{Answer, fraction, ChanceFigure, ChanceOutcome, RewardFigure, RewardOutcome, Bounds, between, last_row, BoundsOf, BoundsFigure, BoundsOutcome}
use Rattle.meaning.specs.Left.{short_rows, LeftOutcome}
use Rattle.theory.specs.Figures.Unique.{reduced_one, chance_one, expected_one}
use Rattle.theory.specs.Chains.Sets.{right_one}
use Rattle.theory.specs.Outcomes.Formed.{formed_fine, start_in}
use Rattle.theory.specs.Outcomes.Whole.{goal_end, last_whole}
use Rattle.theory.specs.Outcomes.Determined.{stops_one, outcome_one}

-- What stops an engine is one, since the sets are.
pub stopped_one : {pay : ℕ → ℕ} {b : Bool} {l : Lent} (n p n' p' : ℕ) → Stopped pay b l n p → Stopped pay b l n' p' → (n ≡ n') × (p ≡ p')
stopped_one {pay} {b} {l} n p n' p' s s' =
    stops_one s.stops (subst (λ k. Stops pay b l k n' p') (right_one s'.right s.right) s'.stops)

-- The two fractions of a row at the end are one.
row_bounds_one : (c : Chain) (z : Row) → 0 < outside c.states c.start z → (p q s t p' q' s' t' : ℕ)
    → BoundsOf c z p q s t → BoundsOf c z p' q' s' t' → between p q s t ≡ between p' q' s' t'
row_bounds_one c z whole p q s t p' q' s' t' f f' =
    let lower = reduced_one whole f.0 f'.0 in
    let upper = reduced_one whole f.1 f'.1 in
    rw (lower.0, lower.1, upper.0, upper.1)

module _ (l : Lent) where
  abbrev c : Chain
  c = l.chain

  pub chance_figure_one : (x : Entry) → x.short ≡ false → WellFormed x l → (a a' : Answer) → ChanceFigure l a → ChanceFigure l a' → a ≡ a'
  chance_figure_one x whole w a a' (ChanceFigure.chance p q h e) (ChanceFigure.chance p' q' h' e') =
      let o = chance_one (formed_fine x l w whole) h h' in
      e ∙ ap₂ fraction o.0 o.1 ∙ sym e'

  reward_figure_one : WellFormed paid l → (a a' : Answer) → RewardFigure l a → RewardFigure l a' → a ≡ a'
  reward_figure_one w a a' (RewardFigure.missed m e) (RewardFigure.missed m' e') = e ∙ sym e'
  reward_figure_one w a a' (RewardFigure.missed m e) (RewardFigure.expected s p q h e') = absurd (s m)
  reward_figure_one w a a' (RewardFigure.expected s p q h e) (RewardFigure.missed m e') = absurd (s m)
  reward_figure_one w a a' (RewardFigure.expected s p q h e) (RewardFigure.expected s' p' q' h' e') =
      let o = expected_one (formed_fine paid l w refl) (start_in paid l w) s h h' in
      e ∙ ap₂ fraction o.0 o.1 ∙ sym e'

  bounds_figure_one : (x : Entry) → x.order ≡ true → WellFormed x l → (a a' : Bounds) → BoundsFigure x.short l a → BoundsFigure x.short l a' → a ≡ a'
  bounds_figure_one x o w a a' (BoundsFigure.won g e) (BoundsFigure.won g' e') = e ∙ sym e'
  bounds_figure_one x o w a a' (BoundsFigure.won g e) (BoundsFigure.lost n e') = absurd (n (PathTo.here c.start (goal_end x.short c c.start g)))
  bounds_figure_one x o w a a' (BoundsFigure.won g e) (BoundsFigure.live k r v p q s t f e') = absurd (v.unwon g)
  bounds_figure_one x o w a a' (BoundsFigure.lost n e) (BoundsFigure.won g e') = absurd (n (PathTo.here c.start (goal_end x.short c c.start g)))
  bounds_figure_one x o w a a' (BoundsFigure.lost n e) (BoundsFigure.lost n' e') = e ∙ sym e'
  bounds_figure_one x o w a a' (BoundsFigure.lost n e) (BoundsFigure.live k r v p q s t f e') = absurd (n v.leads)
  bounds_figure_one x o w a a' (BoundsFigure.live k r v p q s t f e) (BoundsFigure.won g e') = absurd (v.unwon g)
  bounds_figure_one x o w a a' (BoundsFigure.live k r v p q s t f e) (BoundsFigure.lost n e') = absurd (n v.leads)
  bounds_figure_one x o w a a' (BoundsFigure.live k r v p q s t f e) (BoundsFigure.live k' r' v' p' q' s' t' f' e') =
      let z = last_row x.short l k in
      let g : BoundsOf c z p' q' s' t' = subst (λ k. BoundsOf c (last_row x.short l k) p' q' s' t') (right_one r' r) f' in
      e ∙ row_bounds_one c z (last_whole x l w o k r v) p q s t p' q' s' t' f g ∙ sym e'

  pub chance_determined : {a a' : Answer} {w w' : List ℕ} → ChanceOutcome l a w → ChanceOutcome l a' w' → (a ≡ a') × (w ≡ w')
  chance_determined = outcome_one (stopped_one {pay = earns plain l} {b = exact} {l = l}) (chance_figure_one plain refl)

  pub reward_determined : {a a' : Answer} {w w' : List ℕ} → RewardOutcome l a w → RewardOutcome l a' w' → (a ≡ a') × (w ≡ w')
  reward_determined = outcome_one (λ n p n' p' s s'. stopped_one {pay = earns paid l} {b = exact} {l = l} n p n' p' s.1 s'.1) reward_figure_one

  -- The bounds, of what is left too.
  pub bounds_determined : {a a' : Bounds} {w w' : List ℕ} → BoundsOutcome l a w → BoundsOutcome l a' w' → (a ≡ a') × (w ≡ w')
  bounds_determined = outcome_one (λ n p n' p' s s'. absurd s) (bounds_figure_one plain refl)

  pub left_determined : {a a' : Bounds} {w w' : List ℕ} → LeftOutcome l a w → LeftOutcome l a' w' → (a ≡ a') × (w ≡ w')
  left_determined = outcome_one (λ n p n' p' s s'. absurd s) (bounds_figure_one short_rows refl)
