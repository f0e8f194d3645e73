-- The outcome of each entry: its numbers, as document 01 has them, and what its work table then holds.
use Rattle.std.specs.Prelude.{ℕ, ◌+◌, ◌≡◌, Bool, false, List, ◌++◌, replicate, drop}
use Rattle.meaning.specs.Number.{Reduced}
use Rattle.meaning.specs.Chain.{Chain, Goal, End, PathTo, LiveTo}
use Rattle.meaning.specs.Figure.{Chance, Missed, Expected}
use Rattle.meaning.specs.Row.{Row, cell, goal_column, unknown_column, exact, rounding}
use Rattle.meaning.specs.Step.{row, Sets, RightTo, outside, stage_from, unknown}
use Rattle.meaning.specs.Refusal.{Lent, Entry, plain, paid, work_size, Refused, WellFormed}
use Rattle.meaning.specs.Stop.{earns, Stopped}

-- The work table with its first n × (n + 4) numbers zero and the rest unchanged.
abbrev pub cleared : Lent → List ℕ
cleared l = replicate (work_size l.chain.states) 0 ++ drop (work_size l.chain.states) l.work

-- The outcome of an entry: a refusal by the numbers 1 to 11, which leaves the work table unchanged; a stop by 12; or a figure.
pub data Outcome {A : Type 0} (x : Entry) (l : Lent) (refusal : ℕ → ℕ → A) (Stop : ℕ → ℕ → Type 0) (Figure : A → Type 0) (a : A) (work : List ℕ)
    : Type 0 where
  refused : (number place : ℕ) → Refused x l number place → a ≡ refusal number place → work ≡ l.work
      → Outcome x l refusal Stop Figure a work
  stopped : (number place : ℕ) → WellFormed x l → Stop number place → a ≡ refusal number place → work ≡ cleared l
      → Outcome x l refusal Stop Figure a work
  answered : WellFormed x l → ((number place : ℕ) → Stop number place → ⊥) → Figure a → work ≡ cleared l
      → Outcome x l refusal Stop Figure a work

-- What the entries for the chance and for the expected reward answer.
pub record Answer : Type 0 where
  pub number : ℕ
  pub place : ℕ
  pub numerator : ℕ
  pub denominator : ℕ

-- A refusal answers its number and place, with numerator and denominator 0.
abbrev pub refusal : ℕ → ℕ → Answer
refusal number place = record { number = number; place = place; numerator = 0; denominator = 0 }

-- p over q: number 0.
abbrev pub fraction : ℕ → ℕ → Answer
fraction p q = record { number = 0; place = 0; numerator = p; denominator = q }

-- Infinite is number 0, numerator 1, denominator 0.
abbrev pub infinite : Answer
infinite = fraction 1 0

-- The chance.
pub data ChanceFigure (l : Lent) (a : Answer) : Type 0 where
  chance : (p q : ℕ) → Chance l.chain p q → a ≡ fraction p q → ChanceFigure l a

-- The entry for the chance: 12 stops the exact engine.
abbrev pub ChanceOutcome : Lent → Answer → List ℕ → Type 0
ChanceOutcome l = Outcome plain l refusal (Stopped (earns plain l) exact l) (ChanceFigure l)

-- The expected reward, or infinite exactly where the goal may be missed.
pub data RewardFigure (l : Lent) (a : Answer) : Type 0 where
  missed : Missed l.chain → a ≡ infinite → RewardFigure l a
  expected : (Missed l.chain → ⊥) → (p q : ℕ) → Expected l.chain (earns paid l) p q → a ≡ fraction p q → RewardFigure l a

-- 12 stops the exact engine where the reward is not infinite.
abbrev pub RewardStop : Lent → ℕ → ℕ → Type 0
RewardStop l number place = (Missed l.chain → ⊥) × Stopped (earns paid l) exact l number place

-- The entry for the expected reward.
abbrev pub RewardOutcome : Lent → Answer → List ℕ → Type 0
RewardOutcome l = Outcome paid l refusal (RewardStop l) (RewardFigure l)

-- What the entry for the bounds answers.
pub record Bounds : Type 0 where
  pub number : ℕ
  pub place : ℕ
  pub lower_numerator : ℕ
  pub lower_denominator : ℕ
  pub upper_numerator : ℕ
  pub upper_denominator : ℕ

-- A refusal answers its number and place, with noughts for both fractions.
abbrev pub no_bounds : ℕ → ℕ → Bounds
no_bounds number place =
    record {
      number = number;
      place = place;
      lower_numerator = 0;
      lower_denominator = 0;
      upper_numerator = 0;
      upper_denominator = 0;
    }

-- The bounds p over q and s over t.
abbrev pub between : ℕ → ℕ → ℕ → ℕ → Bounds
between p q s t =
    record {
      number = 0;
      place = 0;
      lower_numerator = p;
      lower_denominator = q;
      upper_numerator = s;
      upper_denominator = t;
    }

-- The start's row once every position of the order has had its turn.
abbrev pub last_row : Bool → Lent → Sets → Row
last_row short l k =
    let c = l.chain in
    row (stage_from rounding c k (earns plain l) (unknown short c) l.order c.states) c.start

-- The bounds of the start's row z at the end: Goal / D and (Goal + Unknown) / D, each put in lowest terms.
abbrev pub BoundsOf : Chain → Row → ℕ → ℕ → ℕ → ℕ → Type 0
BoundsOf c z p q s t =
    let n = c.states in
    Reduced (cell z (goal_column n)) (outside n c.start z) p q
    × Reduced (cell z (goal_column n) + cell z (unknown_column n)) (outside n c.start z) s t

-- The bounds: both 1/1 where the start is a goal, both 0/1 where it has no path to an end; else those of the start's row at the end. The ends are
-- the goals, and no weight is Unknown at first, but where rows may fall short.
pub data BoundsFigure (short : Bool) (l : Lent) (a : Bounds) : Type 0 where
  won : Goal l.chain l.chain.start → a ≡ between 1 1 1 1 → BoundsFigure short l a
  lost : (PathTo l.chain.edges (End short l.chain) l.chain.start → ⊥) → a ≡ between 0 1 0 1 → BoundsFigure short l a
  live : (k : Sets) → RightTo l.chain (End short l.chain) k → LiveTo l.chain (End short l.chain) l.chain.start → (p q s t : ℕ)
      → BoundsOf l.chain (last_row short l k) p q s t → a ≡ between p q s t → BoundsFigure short l a

-- Nothing stops the bounds engine, which rounds a row that does not fit.
abbrev pub BoundsStop : ℕ → ℕ → Type 0
BoundsStop number place = ⊥

-- An entry for bounds, whose rows may fall short or not; and the entry for the bounds, where none may.
abbrev pub BoundsOutcomeOf : Entry → Lent → Bounds → List ℕ → Type 0
BoundsOutcomeOf x l = Outcome x l no_bounds BoundsStop (BoundsFigure x.short l)

abbrev pub BoundsOutcome : Lent → Bounds → List ℕ → Type 0
BoundsOutcome = BoundsOutcomeOf plain
