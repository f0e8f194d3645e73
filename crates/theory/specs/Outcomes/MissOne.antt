-- The chance of missing has exactly one outcome for every input, work table included, and is answered for every well-formed one.
use Rattle.std.specs.Prelude.{ℕ, ◌≡◌, refl, Bool, true, false, List, eqb}
use Rattle.std.proofs.Common.{sym, ap, ◌∙◌}
use Rattle.meaning.specs.Number.{choose}
use Rattle.meaning.specs.Chain.{Chain, PathTo}
use Rattle.meaning.specs.Row.{cell, trap_column}
use Rattle.meaning.specs.Step.{row, Sets, Right}
use Rattle.meaning.specs.Refusal.{Lent, plain, WellFormed}
use Rattle.meaning.specs.Outcome.{BoundsStop}
use Rattle.meaning.specs.Near.{near_outside, near_stage, rows_made, Near, near, near_from}
use Rattle.meaning.specs.Miss.{miss_live, MissFigure, MissOutcome}
use Rattle.theory.specs.Chains.Sets.{right_one}
use Rattle.theory.specs.Outcomes.Begin.{won, lost, live, begins}
use Rattle.theory.specs.Outcomes.Computed.{Computed, computed, figure, set_in}
use Rattle.theory.specs.Outcomes.Determined.{outcome_one}
use Rattle.theory.specs.Outcomes.NearFigure.{miss_figure}

module _ (l : Lent) where
  abbrev c : Chain
  c = l.chain

  pub miss_figure_one : (a a' : Near) → MissFigure l a → MissFigure l a' → a ≡ a'
  miss_figure_one a a' (MissFigure.won g e) (MissFigure.won g' e') = e ∙ sym e'
  miss_figure_one a a' (MissFigure.won g e) (MissFigure.lost n e') = absurd (n (PathTo.here c.start g))
  miss_figure_one a a' (MissFigure.won g e) (MissFigure.live k r v e') = absurd (v.unwon g)
  miss_figure_one a a' (MissFigure.lost n e) (MissFigure.won g e') = absurd (n (PathTo.here c.start g))
  miss_figure_one a a' (MissFigure.lost n e) (MissFigure.lost n' e') = e ∙ sym e'
  miss_figure_one a a' (MissFigure.lost n e) (MissFigure.live k r v e') = absurd (n v.leads)
  miss_figure_one a a' (MissFigure.live k r v e) (MissFigure.won g e') = absurd (v.unwon g)
  miss_figure_one a a' (MissFigure.live k r v e) (MissFigure.lost n e') = absurd (n v.leads)
  miss_figure_one a a' (MissFigure.live k r v e) (MissFigure.live k' r' v' e') =
      e ∙ ap (λ (z : Sets). miss_live c z l.order) (right_one r r') ∙ sym e'

  pub miss_determined : {a a' : Near} {w w' : List ℕ} → MissOutcome l a w → MissOutcome l a' w' → (a ≡ a') × (w ≡ w')
  miss_determined = outcome_one (λ n p n' p' s s'. absurd s) (λ _. miss_figure_one)

  -- The answer, where the sets are known.
  unfoldable pub miss_is : (k : Sets) → Right c k → (a : Near) × MissFigure l a
  unfolding begins
  miss_is k right =
      elim (begins c k right) [
        | won g ↦ (near 0 0 0 0 0, MissFigure.won g refl)
        | lost h ↦ (near 0 0 1 1 0, MissFigure.lost h refl)
        | live a ↦ (miss_live c k l.order, MissFigure.live k right a refl)
      ]

  unfoldable pub miss_computed : (k : Sets) → (WellFormed plain l → Right c k)
      → Computed plain l (λ number place. near number place 0 0 0) BoundsStop (MissFigure l)
  unfolding computed miss_is
  miss_computed k right =
      computed plain l (λ number place. near number place 0 0 0) BoundsStop (MissFigure l) (λ f.
      let v = miss_is k (right f) in figure (λ number place s. s) v.0 v.1)

pub miss_outcome : (l : Lent) → Computed plain l (λ number place. near number place 0 0 0) BoundsStop (MissFigure l)
miss_outcome l = set_in plain l (miss_computed l)

-- The number is 0 whatever leads to Trap.
either_nought : (b : Bool) (x y : Near) → x.number ≡ 0 → y.number ≡ 0 → (choose b x y).number ≡ 0
either_nought true x y e f = e
either_nought false x y e f = f

live_nought : (c : Chain) (k : Sets) (o : List ℕ) → (miss_live c k o).number ≡ 0
live_nought c k o =
    let z = row (near_stage c k o c.states) c.start in
    let T = cell z (trap_column c.states) in
    either_nought (eqb T 0) (near 0 0 0 0 0) (near_from T (near_outside c.states c.start z) (rows_made c k o c.states)) refl refl

-- A well-formed chain is never refused.
pub miss_answers : (l : Lent) → WellFormed plain l → {a : Near} {w : List ℕ} → MissOutcome l a w → a.number ≡ 0
miss_answers l formed {a} o = nought a (miss_figure l formed o)
  where
    nought : (b : Near) → MissFigure l b → b.number ≡ 0
    nought b (MissFigure.won g e) = ap (λ (z : Near). z.number) e
    nought b (MissFigure.lost g e) = ap (λ (z : Near). z.number) e
    nought b (MissFigure.live k r v e) = ap (λ (z : Near). z.number) e ∙ live_nought l.chain k l.order
