-- Each entry has an outcome, and it can be computed where the chain's sets are known.
use Rattle.std.specs.Prelude.{ℕ, ◌+◌, ◌/◌, ◌<◌, ◌≡◌, Bool, true, List}
use Rattle.std.proofs.Math.Path.{refl}
use Rattle.std.proofs.Math.Bool.{false}
use Rattle.meaning.specs.Number.{gcd, Reduced}
use Rattle.meaning.specs.Chain.{Chain, begin}
use Rattle.meaning.specs.Figure.{Chance, Missed, Expected}
use Rattle.meaning.specs.Row.{Row, cell, goal_column, unknown_column, reward, exact}
use Rattle.meaning.specs.Step.{row, Sets, Right, outside}
use Rattle.meaning.specs.Refusal.{Lent, Entry, plain, paid, WellFormed}
use Rattle.meaning.specs.Stop.{earns, table_at, Passed, Stopped}
use Rattle.meaning.specs.Outcome.{cleared, Outcome, refused, stopped, answered, refusal, fraction, infinite, ChanceFigure, chance, RewardFigure, missed, expected, RewardStop, Bounds, no_bounds, between, last_row, BoundsFigure, BoundsStop}
use Rattle.theory.specs.Numbers.Gcd.{fraction_reduced}
use Rattle.theory.specs.Chains.Sets.{right_one, right_exists}
use Rattle.theory.specs.Outcomes.Look.{LookResult, look}
use Rattle.theory.specs.Outcomes.Halt.{stops, runs, halt, runs_unstopped}
use Rattle.theory.specs.Outcomes.Begin.{won, lost, live, begins, missing}
use Rattle.theory.specs.Outcomes.Formed.{start_in, goals_in_lem, from_in_lem, unpaid}
use Rattle.theory.specs.Outcomes.Whole.{formed_prepared, exact_whole, exact_chance, exact_reward, bounds_whole, chance_won, chance_lost, reward_won}

-- What an entry says, and its outcome.
pub record Computed {A : Type 0} (x : Entry) (l : Lent) (refusal : ℕ → ℕ → A) (Stop : ℕ → ℕ → Type 0) (Figure : A → Type 0) : Type 0 where
  pub answer : A
  pub work : List ℕ
  pub outcome : Outcome x l refusal Stop Figure answer work

-- What a well-formed input comes to: a stop or a figure.
pub data Result {A : Type 0} (Stop : ℕ → ℕ → Type 0) (Figure : A → Type 0) : Type 0 where
  stop : (number place : ℕ) → Stop number place → Result Stop Figure
  figure : ((number place : ℕ) → Stop number place → ⊥) → (a : A) → Figure a → Result Stop Figure

unfoldable pub computed : {A : Type 0} (x : Entry) (l : Lent) (refusal : ℕ → ℕ → A) (Stop : ℕ → ℕ → Type 0) (Figure : A → Type 0)
    → (WellFormed x l → Result Stop Figure) → Computed x l refusal Stop Figure
unfolding look
computed x l refusal Stop Figure result =
    elim (look x l) [
      | LookResult.refused number place r ↦ record { answer = refusal number place; work = l.work; outcome = refused number place r refl refl }
      | LookResult.formed f ↦ elim (result f) [
        | stop number place s ↦ record { answer = refusal number place; work = cleared l; outcome = stopped number place f s refl refl }
        | figure u a g ↦ record { answer = a; work = cleared l; outcome = answered f u g refl }
      ]
    ]

-- A fraction in lowest terms.
abbrev pub top : ℕ → ℕ → ℕ
top a b = a / gcd a b

abbrev pub bottom : ℕ → ℕ → ℕ
bottom a b = b / gcd a b

-- What the engine comes to: a stop, or none.
pub data Course (pay : ℕ → ℕ) (b : Bool) (l : Lent) : Type 0 where
  halts : (number place : ℕ) → Stopped pay b l number place → Course pay b l
  goes_on : ((number place : ℕ) → Stopped pay b l number place → ⊥) → Course pay b l

module _ (l : Lent) (k : Sets) (right : Right l.chain k) where
  abbrev pub c : Chain
  c = l.chain

  pub passed_unstopped : (pay : ℕ → ℕ) (b : Bool) → Passed pay b l k c.states → (number place : ℕ) → Stopped pay b l number place → ⊥
  passed_unstopped pay b h number place s =
      runs_unstopped pay b l k h number place (rw (right_one s.right right) at s.stops)

  unfoldable pub course : (pay : ℕ → ℕ) (b : Bool) → Course pay b l
  unfolding begins halt
  course pay b =
      elim (begins c k right) [
        | won g ↦ goes_on (λ number place s. s.alive.unwon g)
        | lost h ↦ goes_on (λ number place s. h s.alive.leads)
        | live a ↦ elim (halt pay b l k) [
          | stops number place s ↦ halts number place (record { sets = k; right = right; alive = a; stops = s })
          | runs h ↦ goes_on (passed_unstopped pay b h)
        ]
      ]

  abbrev pub D : Row → ℕ
  D z = outside c.states c.start z

  abbrev pub exact_row : Entry → Row
  exact_row x = row (table_at (earns x l) exact l k c.states) c.start

  -- The chance, whether or not every row fits.
  unfoldable pub chance_is : (x : Entry) → x.order ≡ true → x.short ≡ false → WellFormed x l → (p : ℕ) × ((q : ℕ) × Chance c p q)
  unfolding begins
  chance_is x lent whole f =
      elim (begins c k right) [
        | won g ↦ (1, (1, chance_won c (start_in x l f) g))
        | lost h ↦ (0, (1, chance_lost c (start_in x l f) h))
        | live a ↦ let g = cell (exact_row x) (goal_column c.states) in
            let ready = formed_prepared x l f lent whole k right in
            let h : Reduced g (D (exact_row x)) _ _ = fraction_reduced g (D (exact_row x)) (exact_whole c k l.order ready (earns x l) a) in
            (top g (D (exact_row x)), (bottom g (D (exact_row x)), exact_chance c k l.order ready (earns x l) a _ _ h))
      ]

  -- The expected reward, where it is not infinite.
  unfoldable pub reward_is : WellFormed paid l → (Missed c → ⊥) → (p : ℕ) × ((q : ℕ) × Expected c (earns paid l) p q)
  unfolding begins
  reward_is f m =
      elim (begins c k right) [
        | won g ↦ (0, (1, reward_won c (earns paid l) g))
        | lost h ↦ absurd (m (c.start, begin, h))
        | live a ↦ let r = reward c.states (exact_row paid) in
            let ready = formed_prepared paid l f refl refl k right in
            let h : Reduced r (D (exact_row paid)) _ _ = fraction_reduced r (D (exact_row paid)) (exact_whole c k l.order ready (earns paid l) a) in
            (top r (D (exact_row paid)), (bottom r (D (exact_row paid)), exact_reward c k l.order ready (earns paid l) a m _ _ h))
      ]

  -- The bounds.
  unfoldable pub bounds_are : WellFormed plain l → (a : Bounds) × BoundsFigure false l a
  unfolding begins
  bounds_are f =
      elim (begins c k right) [
        | won g ↦ (between 1 1 1 1, BoundsFigure.won g refl)
        | lost h ↦ (between 0 1 0 1, BoundsFigure.lost h refl)
        | live a ↦ let z = last_row false l k in
            let g = cell z (goal_column c.states) in
            let u = g + cell z (unknown_column c.states) in
            let whole : 0 < D z = bounds_whole c k l.order (formed_prepared plain l f refl refl k right) (earns plain l) a (unpaid plain l refl) in (
              between (top g (D z)) (bottom g (D z)) (top u (D z)) (bottom u (D z)),
              BoundsFigure.live k right a _ _ _ _ (fraction_reduced g (D z) whole, fraction_reduced u (D z) whole) refl,
            )
      ]

-- The chance, for its companion too, the expected reward and the bounds; the sets need be right only where the input is well formed.
module _ (l : Lent) (k : Sets) where
  unfoldable pub chance_computed : (x : Entry) → x.order ≡ true → x.short ≡ false → (WellFormed x l → Right l.chain k)
      → Computed x l refusal (Stopped (earns plain l) exact l) (ChanceFigure l)
  unfolding computed course chance_is
  chance_computed x lent whole right =
      computed x l refusal (Stopped (earns plain l) exact l) (ChanceFigure l) (λ f.
      elim (course l k (right f) (earns plain l) exact) [
        | halts number place s ↦ stop number place s
        | goes_on u ↦ let v = chance_is l k (right f) x lent whole f in
            figure u (fraction v.0 v.1.0) (chance v.0 v.1.0 v.1.1 refl)
      ])

  unfoldable pub reward_computed : (WellFormed paid l → Right l.chain k) → Computed paid l refusal (RewardStop l) (RewardFigure l)
  unfolding computed course reward_is missing
  reward_computed right =
      computed paid l refusal (RewardStop l) (RewardFigure l) (λ f.
      elim (missing l.chain k (right f)) [
        | yes m ↦ figure (λ number place s. s.0 m) infinite (missed m refl)
        | no m ↦ elim (course l k (right f) (earns paid l) exact) [
          | halts number place s ↦ stop number place (m, s)
          | goes_on u ↦ let v = reward_is l k (right f) f m in
              figure (λ number place s. u number place s.1) (fraction v.0 v.1.0) (expected m v.0 v.1.0 v.1.1 refl)
        ]
      ])

  unfoldable pub bounds_computed : (WellFormed plain l → Right l.chain k) → Computed plain l no_bounds BoundsStop (BoundsFigure false l)
  unfolding computed bounds_are
  bounds_computed right =
      computed plain l no_bounds BoundsStop (BoundsFigure false l) (λ f.
      let v = bounds_are l k (right f) f in figure (λ number place s. s) v.0 v.1)

-- The sets are there where the input is well formed, so that each entry has an outcome, whatever it is lent.
pub set_in : (x : Entry) (l : Lent) {T : Type 0} → ((k : Sets) → (WellFormed x l → Right l.chain k) → T) → T
set_in x l t =
    elim (look x l) [
      | LookResult.refused number place r ↦ t (record { good = 0; live = 0 }) (λ f. absurd (f.none number place r.applies))
      | LookResult.formed f ↦ let s = right_exists l.chain (goals_in_lem x l f) (from_in_lem x l f) in t s.0 (λ _. s.1)
    ]

pub chance_outcome : (l : Lent) → Computed plain l refusal (Stopped (earns plain l) exact l) (ChanceFigure l)
chance_outcome l = set_in plain l (λ k. chance_computed l k plain refl refl)

pub reward_outcome : (l : Lent) → Computed paid l refusal (RewardStop l) (RewardFigure l)
reward_outcome l = set_in paid l (reward_computed l)

pub bounds_outcome : (l : Lent) → Computed plain l no_bounds BoundsStop (BoundsFigure false l)
bounds_outcome l = set_in plain l (bounds_computed l)
