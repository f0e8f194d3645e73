-- The numbers of an answer are at most M, so that each has room in 4 bytes and in 10 digits.
use Rattle.std.specs.Prelude.{ℕ, ◌+◌, ◌≤◌, ◌<◌, ◌≡◌, refl, true, false, List}
use Rattle.std.proofs.Common.{inl, inr, ⊎_elim, arith, div-le_self}
use Rattle.meaning.specs.Number.{gcd, Reduced}
use Rattle.meaning.specs.Chain.{M, Chain, FromStart, Live}
use Rattle.meaning.specs.Figure.{Chance, Missed, Expected}
use Rattle.meaning.specs.Row.{Row, cell, total, goal_column, reward, exact, rounding}
use Rattle.meaning.specs.Step.{row, Sets, Right, outside, unknown}
use Rattle.meaning.specs.Refusal.{Lent, Entry, plain, paid, WellFormed}
use Rattle.meaning.specs.Stop.{earns, table_at, Large, Stopped}
use Rattle.meaning.specs.Outcome.{
  refused,
  stopped,
  answered,
  Answer,
  ChanceFigure,
  ChanceOutcome,
  RewardFigure,
  RewardOutcome,
  Bounds,
  between,
  last_row,
  BoundsOf,
  BoundsFigure,
  BoundsOutcome,
}
use Rattle.meaning.specs.Left.{short_rows, LeftOutcome}
use Rattle.theory.specs.Numbers.Sum.{below, sum_term, sum_two}
use Rattle.theory.specs.Numbers.Gcd.{fraction_reduced}
use Rattle.theory.specs.Figures.Unique.{reduced_one, chance_one, expected_one}
use Rattle.theory.specs.Chains.Sets.{right_exists}
use Rattle.theory.specs.Outcomes.Formed.{formed_fine, start_in, goals_in_lem, from_in_lem}
use Rattle.theory.specs.Stages.Fits.{stage_fits}
use Rattle.theory.specs.Outcomes.Whole.{formed_prepared, exact_whole, exact_chance, exact_reward, last_whole, chance_won, chance_lost, reward_won}
use Rattle.theory.specs.Outcomes.Halt.{Halted, stops, runs, halt}
use Rattle.theory.specs.Outcomes.Begin.{Begins, won, lost, live, begins}

-- Both numbers of a fraction are at most M.
pub record Small (p q : ℕ) : Type 0 where
  pub numerator : p ≤ M
  pub denominator : q ≤ M

reduced_small : (a b p q : ℕ) → 0 < b → a ≤ M → b ≤ M → Reduced a b p q → Small p q
reduced_small a b p q whole h k r =
    let o = reduced_one whole r (fraction_reduced a b whole) in
    record {
      numerator = omega (arith, o.0, div-le_self a (gcd a b));
      denominator = omega (arith, o.1, div-le_self b (gcd a b));
    }

small : {p q p' q' : ℕ} → (p ≡ p') × (q ≡ q') → Small p q → Small p' q'
small e s = record { numerator = omega (arith, e.0, s.numerator); denominator = omega (arith, e.1, s.denominator) }

one_small : (p : ℕ) → p ≤ 1 → Small p 1
one_small p h = record { numerator = omega arith; denominator = omega arith }

module _ (x : Entry) (l : Lent) (formed : WellFormed x l) (whole : x.short ≡ false) (none : (number place : ℕ) → Stopped (earns x l) exact l number place → ⊥) where
  abbrev c : Chain
  c = l.chain

  abbrev n : ℕ
  n = c.states

  -- Where nothing stops the exact engine, the start's row fits at the end.
  module _ (k : Sets) (right : Right c k) (alive : Live c c.start) where
    abbrev last : Row
    last = row (table_at (earns x l) exact l k n) c.start

    fits : Large n last → ⊥
    fits large = go (halt (earns x l) exact l k)
      where
        go : Halted (earns x l) exact l k → ⊥
        go (stops number place s) = none number place (record { sets = k; right = right; alive = alive; stops = s })
        go (runs w) = w n (omega arith) (refl, (c.start, (start_in x l formed, large)))

    last_total : total n last ≤ M
    last_total = ⊎_elim (λ (h : M < total n last). absurd (fits (inl h))) (λ h. h) (below M (total n last))

    last_reward : reward n last ≤ M
    last_reward = ⊎_elim (λ (h : M < reward n last). absurd (fits (inr h))) (λ h. h) (below M (reward n last))

    last_goal : cell last (goal_column n) ≤ M
    last_goal = omega (arith, last_total, sum_term (cell last) (n + 3) n (omega arith))

    last_outside : outside n c.start last ≤ M
    last_outside = omega (arith, last_total)

    -- So do the figures that are read off it.
    module _ (ordered : x.order ≡ true) where
      live_chance : (p q : ℕ) → Chance c p q → Small p q
      live_chance p q h =
          let ready = formed_prepared x l formed ordered whole k right in
          let some = exact_whole c k l.order ready (earns x l) alive in
          let r = fraction_reduced (cell last (goal_column n)) (outside n c.start last) some in
          small (chance_one (formed_fine x l formed whole) (exact_chance c k l.order ready (earns x l) alive _ _ r) h)
          (reduced_small _ _ _ _ some last_goal last_outside r)

      live_reward : (Missed c → ⊥) → (p q : ℕ) → Expected c (earns x l) p q → Small p q
      live_reward sure p q h =
          let ready = formed_prepared x l formed ordered whole k right in
          let some = exact_whole c k l.order ready (earns x l) alive in
          let r = fraction_reduced (reward n last) (outside n c.start last) some in
          small
          (expected_one (formed_fine x l formed whole) (start_in x l formed) sure (exact_reward c k l.order ready (earns x l) alive sure _ _ r) h)
          (reduced_small _ _ _ _ some last_reward last_outside r)

-- The chance and the expected reward.
chance_figure : (l : Lent) → WellFormed plain l → ((number place : ℕ) → Stopped (earns plain l) exact l number place → ⊥) → (p q : ℕ) → Chance l.chain p q → Small p q
chance_figure l formed none p q h = go (right_exists l.chain (goals_in_lem plain l formed) (from_in_lem plain l formed))
  where
    at : (k : Sets) → Right l.chain k → Begins l.chain → Small p q
    at k right (won g) =
        small (chance_one (formed_fine plain l formed refl) (chance_won l.chain (start_in plain l formed) g) h) (one_small 1 (omega arith))
    at k right (lost g) =
        small (chance_one (formed_fine plain l formed refl) (chance_lost l.chain (start_in plain l formed) g) h) (one_small 0 (omega arith))
    at k right (live v) = live_chance plain l formed refl none k right v refl p q h

    go : (k : Sets) × Right l.chain k → Small p q
    go s = at s.0 s.1 (begins l.chain s.0 s.1)

reward_figure : (l : Lent) → WellFormed paid l → ((number place : ℕ) → Stopped (earns paid l) exact l number place → ⊥) → (Missed l.chain → ⊥) → (p q : ℕ)
    → Expected l.chain (earns paid l) p q → Small p q
reward_figure l formed none sure p q h = go (right_exists l.chain (goals_in_lem paid l formed) (from_in_lem paid l formed))
  where
    at : (k : Sets) → Right l.chain k → Begins l.chain → Small p q
    at k right (won g) =
        small (expected_one (formed_fine paid l formed refl) (start_in paid l formed) sure (reward_won l.chain (earns paid l) g) h)
        (one_small 0 (omega arith))
    at k right (lost g) = absurd (sure (l.chain.start, FromStart.begin, g))
    at k right (live v) = live_reward paid l formed refl none k right v refl sure p q h

    go : (k : Sets) × Right l.chain k → Small p q
    go s = at s.0 s.1 (begins l.chain s.0 s.1)

pub nought : Small 0 0
nought = record { numerator = omega arith; denominator = omega arith }

-- A refusal has noughts, and infinite 1 over 0.
pub chance_small : {l : Lent} {a : Answer} {w : List ℕ} → ChanceOutcome l a w → Small a.numerator a.denominator
chance_small (refused number place r e s) = rw e nought
chance_small (stopped number place f t e s) = rw e nought
chance_small {l} (answered f t (ChanceFigure.chance p q h e) s) = rw e (chance_figure l f t p q h)

pub reward_small : {l : Lent} {a : Answer} {w : List ℕ} → RewardOutcome l a w → Small a.numerator a.denominator
reward_small (refused number place r e s) = rw e nought
reward_small (stopped number place f t e s) = rw e nought
reward_small (answered f t (RewardFigure.missed m e) s) = rw e (record { numerator = omega arith; denominator = omega arith })
reward_small {l} (answered f t (RewardFigure.expected u p q h e) s) =
    rw e (reward_figure l f (λ number place s. t number place (u, s)) u p q h)

-- Both fractions of the bounds.
abbrev pub BothSmall : Bounds → Type 0
BothSmall a = Small a.lower_numerator a.lower_denominator × Small a.upper_numerator a.upper_denominator

-- Those of a row that fits.
row_small : (c : Chain) (z : Row) → 0 < outside c.states c.start z → total c.states z ≤ M → (p q s t : ℕ) → BoundsOf c z p q s t
    → BothSmall (between p q s t)
row_small c z whole all p q s t f =
    let m = c.states in
    let two : cell z m + cell z (m + 2) ≤ total m z = sum_two (cell z) (m + 3) m (m + 2) (omega arith) (omega arith) (omega arith) in
    (reduced_small _ _ p q whole (omega arith) (omega arith) f.0, reduced_small _ _ s t whole (omega arith) (omega arith) f.1)

bounds_figure : (x : Entry) (l : Lent) → WellFormed x l → x.order ≡ true → (a : Bounds) → BoundsFigure x.short l a → BothSmall a
bounds_figure x l formed o a (BoundsFigure.won g e) = rw e (one_small 1 (omega arith), one_small 1 (omega arith))
bounds_figure x l formed o a (BoundsFigure.lost g e) = rw e (one_small 0 (omega arith), one_small 0 (omega arith))
bounds_figure x l formed o a (BoundsFigure.live k right v p q s t f e) =
    let c = l.chain in
    rw e
    (row_small c (last_row x.short l k) (last_whole x l formed o k right v)
    ((stage_fits c k (earns plain l) (unknown x.short c) l.order rounding c.states c.start (start_in x l formed)).small refl) p q s t f)

pub bounds_small : {l : Lent} {a : Bounds} {w : List ℕ} → BoundsOutcome l a w → BothSmall a
bounds_small (refused number place r e s) = rw e (nought, nought)
bounds_small (stopped number place f t e s) = absurd t
bounds_small {l} {a} (answered f t g s) = bounds_figure plain l f refl a g

-- Those of what is left.
pub left_small : {l : Lent} {a : Bounds} {w : List ℕ} → LeftOutcome l a w → BothSmall a
left_small (refused number place r e s) = rw e (nought, nought)
left_small (stopped number place f t e s) = absurd t
left_small {l} {a} (answered f t g s) = bounds_figure short_rows l f refl a g
