-- Demand 3 in its own words, from the outcome relation alone: for a well-formed chain and any order always two fractions, the chance between
-- them, both equal to it if nothing was rounded.
use Rattle.std.specs.Prelude.{ℕ, ◌+◌, ◌*◌, ◌≤◌, ◌<◌, ◌≡◌, refl, false, List}
use Rattle.std.proofs.Common.{sym, ap, subst, arith, mul-le-mul_left, mul-pos}
use Rattle.std.proofs.Math.Nat.{le_of_mul-le-mul_left}
use Rattle.meaning.specs.Number.{Reduced}
use Rattle.meaning.specs.Chain.{Chain, Live}
use Rattle.meaning.specs.Figure.{Chance}
use Rattle.meaning.specs.Row.{cell, goal_column, unknown_column, rounding}
use Rattle.meaning.specs.Step.{Sets, Right, outside}
use Rattle.meaning.specs.Refusal.{Lent, Entry, plain, WellFormed}
use Rattle.meaning.specs.Stop.{earns, Stops, before_steps, in_step, Stopped}
use Rattle.meaning.specs.Outcome.{refused, stopped, answered, Bounds, between, last_row, BoundsFigure, BoundsOutcomeOf, BoundsOutcome}
use Rattle.meaning.specs.Demand.{AtMost, ChanceBetween, BothChance, Unrounded}
use Rattle.theory.specs.Rows.Settle.{one_engine}
use Rattle.theory.specs.Chains.Fine.{Fine}
use Rattle.theory.specs.Figures.Shares.{shares_exist}
use Rattle.theory.specs.Outcomes.Formed.{formed_fine, start_in, unpaid}
use Rattle.theory.specs.Outcomes.Whole.{
  formed_prepared,
  lower_bound,
  upper_bound,
  lower_chance,
  upper_chance,
  bounds_whole,
  chance_won,
  chance_lost,
}
use Rattle.theory.specs.Figures.Unique.{chance_one}

-- A fraction in lowest terms keeps its place beside x over d: a over b is x over d's lower, or upper, bound.
pub below_share : (a b p q d x s t : ℕ) → 0 < b → 0 < d → Reduced a b p q → s * d ≡ x * t → a * d ≤ x * b → AtMost p q s t
below_share a b p q d x s t whole above r e h =
    le_of_mul-le-mul_left {k = b * d}
    (omega (arith, ap (λ z. z * (d * t)) r.same, ap (λ z. z * (b * q)) e, mul-le-mul_left (q * t) h)) (mul-pos whole above)

pub above_share : (a b p q d x s t : ℕ) → 0 < b → 0 < d → Reduced a b p q → s * d ≡ x * t → x * b ≤ a * d → AtMost s t p q
above_share a b p q d x s t whole above r e h =
    le_of_mul-le-mul_left {k = b * d}
    (omega (arith, ap (λ z. z * (d * t)) r.same, ap (λ z. z * (b * q)) e, mul-le-mul_left (q * t) h)) (mul-pos whole above)

-- Nothing stops the bounds engine, since only a row of the exact engine does not fit.
pub rounding_unstopped : {pay : ℕ → ℕ} {l : Lent} {number place : ℕ} → Stopped pay rounding l number place → ⊥
rounding_unstopped s = none s.stops
  where
    none : {pay : ℕ → ℕ} {l : Lent} {k : Sets} {number place : ℕ} → Stops pay rounding l k number place → ⊥
    none (before_steps f) = one_engine rounding f.0 refl
    none (in_step p h w f) = one_engine rounding f.0 refl

-- A chance that is known is both of its bounds.
pub known : {c : Chain} → Fine c → (u v : ℕ) → Chance c u v → ChanceBetween c (between u v u v)
known fine u v h =
    record {
      lower_lowest = h.lowest;
      upper_lowest = h.lowest;
      lower = λ p q k. let o = chance_one fine h k in rw (o.0, o.1) (omega arith);
      upper = λ p q k. let o = chance_one fine h k in rw (o.0, o.1) (omega arith);
    }

-- Of a well-formed input an entry for bounds says two fractions.
pub bounds_figure_of : {x : Entry} {l : Lent} {a : Bounds} {w : List ℕ} → WellFormed x l → BoundsOutcomeOf x l a w → BoundsFigure x.short l a
bounds_figure_of formed (refused n p r e s) = absurd (formed.none n p r.applies)
bounds_figure_of formed (stopped n p f t e s) = absurd t
bounds_figure_of formed (answered f t g s) = g

module _ (l : Lent) (formed : WellFormed plain l) where
  abbrev c : Chain
  c = l.chain

  module _ (k : Sets) (right : Right c k) (alive : Live c c.start) (p q s t : ℕ)
      (lowest : Reduced (cell (last_row false l k) (goal_column c.states)) (outside c.states c.start (last_row false l k)) p q)
      (highest
      : Reduced (cell (last_row false l k) (goal_column c.states) + cell (last_row false l k) (unknown_column c.states))
      (outside c.states c.start (last_row false l k)) s t)
    where
      whole : 0 < outside c.states c.start (last_row false l k)
      whole =
          bounds_whole c k l.order (formed_prepared plain l formed refl refl k right) (earns plain l) alive (unpaid plain l refl)

      live_holds : ChanceBetween c (between p q s t)
      live_holds =
          let ready = formed_prepared plain l formed refl refl k right in
          let free = unpaid plain l refl in
          let (d, x, share) = shares_exist (formed_fine plain l formed refl) in
          record {
            lower_lowest = lowest.lowest;
            upper_lowest = highest.lowest;
            lower = λ u v h.
                below_share _ _ p q d (x c.start) u v whole share.whole lowest (h.share d x share)
                (lower_bound c k l.order ready (earns plain l) alive free d x share);
            upper = λ u v h.
                above_share _ _ s t d (x c.start) u v whole share.whole highest (h.share d x share)
                (upper_bound c k l.order ready (earns plain l) alive free d x share);
          }

      live_equal : Unrounded l → Chance c p q × Chance c s t
      live_equal none =
          let ready = formed_prepared plain l formed refl refl k right in (
            lower_chance c k l.order ready (earns plain l) alive (none k right) p q lowest,
            upper_chance c k l.order ready (earns plain l) alive (none k right) s t highest,
          )

  module _ (a : Bounds) (w : List ℕ) where
    -- The entry for the bounds never refuses a well-formed chain.
    pub bounds_answer : BoundsOutcome l a w → a.number ≡ 0
    bounds_answer o = nought a (bounds_figure_of formed o)
      where
        nought : (b : Bounds) → BoundsFigure false l b → b.number ≡ 0
        nought b (BoundsFigure.won g e) = ap (λ (z : Bounds). z.number) e
        nought b (BoundsFigure.lost g e) = ap (λ (z : Bounds). z.number) e
        nought b (BoundsFigure.live k r v p q s t f e) = ap (λ (z : Bounds). z.number) e

    -- The chance lies between its two fractions, which are in lowest terms.
    pub bounds_hold : BoundsOutcome l a w → ChanceBetween c a
    bounds_hold o = held a (bounds_figure_of formed o)
      where
        held : (b : Bounds) → BoundsFigure false l b → ChanceBetween c b
        held b (BoundsFigure.won g e) = subst (ChanceBetween c) (sym e) (known (formed_fine plain l formed refl) 1 1 (chance_won c (start_in plain l formed) g))
        held b (BoundsFigure.lost g e) = subst (ChanceBetween c) (sym e) (known (formed_fine plain l formed refl) 0 1 (chance_lost c (start_in plain l formed) g))
        held b (BoundsFigure.live k r v p q s t f e) = subst (ChanceBetween c) (sym e) (live_holds k r v p q s t f.0 f.1)

    -- Both are the chance where no row was rounded.
    pub bounds_equal : Unrounded l → BoundsOutcome l a w → BothChance c a
    bounds_equal none o = equal a (bounds_figure_of formed o)
      where
        equal : (b : Bounds) → BoundsFigure false l b → BothChance c b
        equal b (BoundsFigure.won g e) =
            let h = chance_won c (start_in plain l formed) g in subst (BothChance c) (sym e) (h, h)
        equal b (BoundsFigure.lost g e) =
            let h = chance_lost c (start_in plain l formed) g in subst (BothChance c) (sym e) (h, h)
        equal b (BoundsFigure.live k r v p q s t f e) = subst (BothChance c) (sym e) (live_equal k r v p q s t f.0 f.1 none)
