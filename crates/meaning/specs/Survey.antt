-- The survey of a chain: which of its states have a path to an end, which are live, whether a state is reached that has none, and how many states
-- are goals and live.
use Rattle.std.specs.Prelude.{ℕ, suc, ◌≡◌, ◌↔◌, Bool, true, false}
use Rattle.meaning.specs.Chain.{Chain, Goal, End, PathTo, FromStart, LiveTo}
use Rattle.meaning.specs.Step.{Sets, RightTo}
use Rattle.meaning.specs.Refusal.{Lent, bare_of, Refused, WellFormed}

-- Of the numbers below n, k have the property P.
pub data Count (P : ℕ → Type 0) : ℕ → ℕ → Type 0 where
  none : Count P 0 0
  one : {n k : ℕ} → P n → Count P n k → Count P (suc n) (suc k)
  skip : {n k : ℕ} → (P n → ⊥) → Count P n k → Count P (suc n) k

-- What a survey answers: the two sets, whether a state is reached that has no path to an end, and how many states are goals and how many are live.
pub record Survey : Type 0 where
  pub number : ℕ
  pub place : ℕ
  pub sets : Sets
  pub missed : Bool
  pub goals : ℕ
  pub live : ℕ

-- A refusal answers its number and place, and nothing of the chain.
abbrev pub no_survey : ℕ → ℕ → Survey
no_survey number place =
    record {
      number = number;
      place = place;
      sets = record { good = 0; live = 0 };
      missed = false;
      goals = 0;
      live = 0;
    }

abbrev pub surveys : Sets → Bool → ℕ → ℕ → Survey
surveys sets missed goals live =
    record { number = 0; place = 0; sets = sets; missed = missed; goals = goals; live = live }

-- A state is reached that has no path to an end: where no row falls short, the expected reward is infinite.
abbrev pub Misses : Bool → Chain → Type 0
Misses short c = (i : ℕ) × FromStart c i × (PathTo c.edges (End short c) i → ⊥)

-- A survey is lent a chain alone, whose rows may fall short or not: it refuses by 1 and 3 to 9, or answers the chain's own sets, whether a state is
-- reached that has no path to an end, and counts the goals and the live states, the start included where it is live.
pub data SurveyOutcome (short : Bool) (l : Lent) (a : Survey) : Type 0 where
  refused : (number place : ℕ) → Refused (bare_of short) l number place → a ≡ no_survey number place → SurveyOutcome short l a
  surveyed : WellFormed (bare_of short) l → (k : Sets) → RightTo l.chain (End short l.chain) k → (missed : Bool)
      → (missed ≡ true) ↔ Misses short l.chain
      → (goals live : ℕ)
      → Count (Goal l.chain) l.chain.states goals
      → Count (LiveTo l.chain (End short l.chain)) l.chain.states live
      → a ≡ surveys k missed goals live
      → SurveyOutcome short l a
