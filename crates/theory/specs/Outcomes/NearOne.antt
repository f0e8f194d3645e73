-- A near chance has exactly one outcome for every input, work table included, and is answered for every well-formed one.
use Rattle.std.specs.Prelude.{ℕ, ◌≡◌, refl, List}
use Rattle.std.proofs.Common.{sym, ap, ◌∙◌}
use Rattle.meaning.specs.Chain.{Chain, PathTo}
use Rattle.meaning.specs.Step.{Sets, Right}
use Rattle.meaning.specs.Refusal.{Lent, plain, WellFormed}
use Rattle.meaning.specs.Outcome.{BoundsStop}
use Rattle.meaning.specs.Near.{Near, near, near_live, NearFigure, NearOutcome}
use Rattle.theory.specs.Chains.Sets.{right_one}
use Rattle.theory.specs.Outcomes.Begin.{won, lost, live, begins}
use Rattle.theory.specs.Outcomes.Computed.{Computed, computed, figure, set_in}
use Rattle.theory.specs.Outcomes.Determined.{outcome_one}
use Rattle.theory.specs.Outcomes.NearFigure.{near_figure}

module _ (l : Lent) where
  abbrev c : Chain
  c = l.chain

  pub near_figure_one : (a a' : Near) → NearFigure l a → NearFigure l a' → a ≡ a'
  near_figure_one a a' (NearFigure.won g e) (NearFigure.won g' e') = e ∙ sym e'
  near_figure_one a a' (NearFigure.won g e) (NearFigure.lost n e') = absurd (n (PathTo.here c.start g))
  near_figure_one a a' (NearFigure.won g e) (NearFigure.live k r v e') = absurd (v.unwon g)
  near_figure_one a a' (NearFigure.lost n e) (NearFigure.won g e') = absurd (n (PathTo.here c.start g))
  near_figure_one a a' (NearFigure.lost n e) (NearFigure.lost n' e') = e ∙ sym e'
  near_figure_one a a' (NearFigure.lost n e) (NearFigure.live k r v e') = absurd (n v.leads)
  near_figure_one a a' (NearFigure.live k r v e) (NearFigure.won g e') = absurd (v.unwon g)
  near_figure_one a a' (NearFigure.live k r v e) (NearFigure.lost n e') = absurd (n v.leads)
  near_figure_one a a' (NearFigure.live k r v e) (NearFigure.live k' r' v' e') =
      e ∙ ap (λ (z : Sets). near_live c z l.order) (right_one r r') ∙ sym e'

  pub near_determined : {a a' : Near} {w w' : List ℕ} → NearOutcome l a w → NearOutcome l a' w' → (a ≡ a') × (w ≡ w')
  near_determined = outcome_one (λ n p n' p' s s'. absurd s) (λ _. near_figure_one)

  -- The answer, where the sets are known.
  unfoldable pub near_is : (k : Sets) → Right c k → (a : Near) × NearFigure l a
  unfolding begins
  near_is k right =
      elim (begins c k right) [
        | won g ↦ (near 0 0 1 1 0, NearFigure.won g refl)
        | lost h ↦ (near 0 0 0 0 0, NearFigure.lost h refl)
        | live a ↦ (near_live c k l.order, NearFigure.live k right a refl)
      ]

  unfoldable pub near_computed : (k : Sets) → (WellFormed plain l → Right c k)
      → Computed plain l (λ number place. near number place 0 0 0) BoundsStop (NearFigure l)
  unfolding computed near_is
  near_computed k right =
      computed plain l (λ number place. near number place 0 0 0) BoundsStop (NearFigure l) (λ f.
      let v = near_is k (right f) in figure (λ number place s. s) v.0 v.1)

pub near_outcome : (l : Lent) → Computed plain l (λ number place. near number place 0 0 0) BoundsStop (NearFigure l)
near_outcome l = set_in plain l (near_computed l)

-- A well-formed chain is never refused.
pub near_answers : (l : Lent) → WellFormed plain l → {a : Near} {w : List ℕ} → NearOutcome l a w → a.number ≡ 0
near_answers l formed {a} o = nought a (near_figure l formed o)
  where
    nought : (b : Near) → NearFigure l b → b.number ≡ 0
    nought b (NearFigure.won g e) = ap (λ (z : Near). z.number) e
    nought b (NearFigure.lost g e) = ap (λ (z : Near). z.number) e
    nought b (NearFigure.live k r v e) = ap (λ (z : Near). z.number) e
