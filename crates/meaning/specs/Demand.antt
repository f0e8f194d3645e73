-- What the exact entries and the bounds are held to: the words of demands 2 and 3, and that every D is above 0.
use Rattle.std.specs.Prelude.{ℕ, ◌*◌, ◌≤◌, ◌<◌, Bool}
use Rattle.meaning.specs.Number.{Lowest}
use Rattle.meaning.specs.Chain.{Chain, End, LiveTo, Live}
use Rattle.meaning.specs.Figure.{Chance}
use Rattle.meaning.specs.Row.{Row, exact}
use Rattle.meaning.specs.Step.{row, Sets, RightTo, Right, outside, unknown, stage_from, RoundedAt}
use Rattle.meaning.specs.Refusal.{Lent, Entry, plain}
use Rattle.meaning.specs.Stop.{earns, turn, NoFit}
use Rattle.meaning.specs.Outcome.{Bounds}

-- In the exact engine a kept row in lowest terms does not fit, after some of the positions of the order. With the start a goal or not live
-- no row is made.
pub record NoFitAnywhere (pay : ℕ → ℕ) (l : Lent) : Type 0 where
  pub sets : Sets
  pub right : Right l.chain sets
  pub alive : Live l.chain l.chain.start
  pub position : ℕ
  pub inside : position ≤ l.chain.states
  pub large : NoFit pay exact l sets position

-- Some kept row of the exact chance of what is lent does not fit.
abbrev pub TooLarge : Lent → Type 0
TooLarge l = NoFitAnywhere (earns plain l) l

-- p over q is at most s over t, by cross products.
abbrev pub AtMost : ℕ → ℕ → ℕ → ℕ → Type 0
AtMost p q s t = p * t ≤ s * q

-- The chance lies between the two fractions, and each of them is in lowest terms.
pub record ChanceBetween (c : Chain) (a : Bounds) : Type 0 where
  pub lower_lowest : Lowest a.lower_numerator a.lower_denominator
  pub upper_lowest : Lowest a.upper_numerator a.upper_denominator
  pub lower : (p q : ℕ) → Chance c p q → AtMost a.lower_numerator a.lower_denominator p q
  pub upper : (p q : ℕ) → Chance c p q → AtMost p q a.upper_numerator a.upper_denominator

-- Both fractions are the chance.
abbrev pub BothChance : Chain → Bounds → Type 0
BothChance c a = Chance c a.lower_numerator a.lower_denominator × Chance c a.upper_numerator a.upper_denominator

-- The bounds engine rounds no row.
abbrev pub Unrounded : Lent → Type 0
Unrounded l = (k : Sets) → Right l.chain k → (p : ℕ) → p ≤ l.chain.states → RoundedAt l.chain k (earns plain l) l.order p → ⊥

-- The row of s after the first p positions of the order, in an entry whose rows may fall short or not.
abbrev pub row_after : Entry → Bool → Lent → Sets → ℕ → ℕ → Row
row_after x b l k p s = row (stage_from b l.chain k (earns x l) (unknown x.short l.chain) l.order p) s

-- A live state has, at its turn, weight outside its own loop: D is above 0.
abbrev pub OutsideAtTurn : Entry → Bool → Lent → Type 0
OutsideAtTurn x b l =
    let c = l.chain in (k : Sets) → RightTo c (End x.short c) k → (p : ℕ) → p < c.states → LiveTo c (End x.short c) (turn l p)
    → 0 < outside c.states (turn l p) (row_after x b l k p (turn l p))

-- So has a live start at the end.
abbrev pub OutsideAtEnd : Entry → Bool → Lent → Type 0
OutsideAtEnd x b l =
    let c = l.chain in (k : Sets) → RightTo c (End x.short c) k → LiveTo c (End x.short c) c.start
    → 0 < outside c.states c.start (row_after x b l k c.states c.start)
