-- Demand 2 in its own words, from the outcome relations alone: for a well-formed chain and any order the exact entries give the figure in
-- lowest terms, and refuse exactly when a kept row in lowest terms does not fit.
use Rattle.std.specs.Prelude.{ℕ, suc, ◌≤◌, ◌≡◌, refl, ◌⊎◌, ◌↔◌, Bool, List}
use Rattle.std.proofs.Common.{sym, ap, subst, ◌∙◌, inl, inr, arith}
use Rattle.meaning.specs.Figure.{Chance, Missed, Expected}
use Rattle.meaning.specs.Row.{exact}
use Rattle.meaning.specs.Step.{Sets}
use Rattle.meaning.specs.Refusal.{Lent, plain, paid, WellFormed}
use Rattle.meaning.specs.Stop.{earns, NoFit, Stops, before_steps, in_step, Stopped}
use Rattle.meaning.specs.Outcome.{refused, stopped, answered, Answer, infinite, ChanceFigure, ChanceOutcome, RewardFigure, RewardOutcome}
use Rattle.meaning.specs.Demand.{NoFitAnywhere}
use Rattle.theory.specs.Figures.Unique.{chance_one, expected_one}
use Rattle.theory.specs.Outcomes.Formed.{formed_fine, start_in}
use Rattle.theory.specs.Outcomes.Halt.{Halted, stops, runs, halt}

-- What stops an engine is 12, and the exact engine a row that is large.
pub stopped_twelve : {pay : ℕ → ℕ} {b : Bool} {l : Lent} {number place : ℕ} → Stopped pay b l number place → number ≡ 12
stopped_twelve s = twelve s.stops
  where
    twelve : {pay : ℕ → ℕ} {b : Bool} {l : Lent} {k : Sets} {number place : ℕ} → Stops pay b l k number place → number ≡ 12
    twelve (before_steps f) = refl
    twelve (in_step p h w f) = refl

module _ (pay : ℕ → ℕ) (l : Lent) where
  pub stopped_large : {number place : ℕ} → Stopped pay exact l number place → NoFitAnywhere pay l
  stopped_large s = large s.stops
    where
      at : (p : ℕ) → p ≤ l.chain.states → NoFit pay exact l s.sets p → NoFitAnywhere pay l
      at p h f = record { sets = s.sets; right = s.right; alive = s.alive; position = p; inside = h; large = f }

      large : {number place : ℕ} → Stops pay exact l s.sets number place → NoFitAnywhere pay l
      large (before_steps f) = at 0 (omega arith) f
      large (in_step p h w f) = at (suc p) h f

  -- And a row that is large stops it.
  pub large_stopped : NoFitAnywhere pay l → (number : ℕ) × (place : ℕ) × Stopped pay exact l number place
  large_stopped h = go (halt pay exact l h.sets)
    where
      go : Halted pay exact l h.sets → (number : ℕ) × (place : ℕ) × Stopped pay exact l number place
      go (stops number place s) =
          (number, place, record { sets = h.sets; right = h.right; alive = h.alive; stops = s })
      go (runs w) = absurd (w h.position h.inside h.large)

number_is : {a b : Answer} → a ≡ b → a.number ≡ b.number
number_is e = ap (λ (z : Answer). z.number) e

nought_and_twelve : (number : ℕ) → number ≡ 0 → number ≡ 12 → ⊥
nought_and_twelve number e f = omega arith

pub chance_of_lem : {l : Lent} {a : Answer} → ChanceFigure l a → Chance l.chain a.numerator a.denominator
chance_of_lem {l} (ChanceFigure.chance p q h e) = subst (λ (z : Answer). Chance l.chain z.numerator z.denominator) (sym e) h

-- The entry for the chance.
module _ (l : Lent) (formed : WellFormed plain l) (a : Answer) (w : List ℕ) where
  -- It answers, or refuses with 12.
  pub chance_answers : ChanceOutcome l a w → (a.number ≡ 0) ⊎ (a.number ≡ 12)
  chance_answers (refused n p r e s) = absurd (formed.none n p r.applies)
  chance_answers (stopped n p f t e s) = inr (number_is e ∙ stopped_twelve t)
  chance_answers (answered f t (ChanceFigure.chance p q h e) s) = inl (number_is e)

  -- The fraction is the chance in lowest terms.
  pub chance_is : ChanceOutcome l a w → a.number ≡ 0 → Chance l.chain a.numerator a.denominator
  chance_is (refused n p r e s) z = absurd (formed.none n p r.applies)
  chance_is (stopped n p f t e s) z =
      absurd (nought_and_twelve a.number z (number_is e ∙ stopped_twelve t))
  chance_is (answered f t g s) z = chance_of_lem g

  -- It refuses exactly when a kept row in lowest terms does not fit.
  pub chance_refuses : ChanceOutcome l a w → (a.number ≡ 12) ↔ NoFitAnywhere (earns plain l) l
  chance_refuses (refused n p r e s) = absurd (formed.none n p r.applies)
  chance_refuses (stopped n p f t e s) =
      (λ _. stopped_large (earns plain l) l t, λ _. number_is e ∙ stopped_twelve t)
  chance_refuses (answered f t (ChanceFigure.chance p q h e) s) = (
    λ z. absurd (nought_and_twelve a.number (number_is e) z),
    λ large. let u = large_stopped (earns plain l) l large in absurd (t u.0 u.1 u.2),
  )

-- Two orders that both answer give one fraction.
pub chance_any_order : (l l' : Lent) → WellFormed plain l → WellFormed plain l' → l.chain ≡ l'.chain → (a a' : Answer) (w w' : List ℕ)
    → ChanceOutcome l a w → ChanceOutcome l' a' w' → a.number ≡ 0 → a'.number ≡ 0
    → (a.numerator ≡ a'.numerator) × (a.denominator ≡ a'.denominator)
chance_any_order l l' formed formed' same a a' w w' o o' z z' =
    chance_one (formed_fine plain l formed refl) (chance_is l formed a w o z)
    (subst (λ c. Chance c a'.numerator a'.denominator) (sym same) (chance_is l' formed' a' w' o' z'))

-- The entry for the expected reward.
module _ (l : Lent) (formed : WellFormed paid l) (a : Answer) (w : List ℕ) where
  pub reward_answers : RewardOutcome l a w → (a.number ≡ 0) ⊎ (a.number ≡ 12)
  reward_answers (refused n p r e s) = absurd (formed.none n p r.applies)
  reward_answers (stopped n p f t e s) = inr (number_is e ∙ stopped_twelve t.1)
  reward_answers (answered f t (RewardFigure.missed m e) s) = inl (number_is e)
  reward_answers (answered f t (RewardFigure.expected u p q h e) s) = inl (number_is e)

  -- It is infinite exactly when the goal may be missed.
  pub reward_infinite : RewardOutcome l a w → (a ≡ infinite) ↔ Missed l.chain
  reward_infinite (refused n p r e s) = absurd (formed.none n p r.applies)
  reward_infinite (stopped n p f t e s) = (
    λ i.
        absurd
        (nought_and_twelve a.number (number_is i)
        (number_is e ∙ stopped_twelve t.1)),
    λ m. absurd (t.0 m),
  )
  reward_infinite (answered f t (RewardFigure.missed m e) s) = (λ _. m, λ _. e)
  reward_infinite (answered f t (RewardFigure.expected u p q h e) s) = (
    λ i. absurd (let z : q ≡ 0 = ap (λ (z : Answer). z.denominator) (sym e ∙ i) in omega (arith, h.lowest.whole)),
    λ m. absurd (u m),
  )

  -- Otherwise the fraction is the expected reward in lowest terms.
  pub reward_is : RewardOutcome l a w → a.number ≡ 0 → (Missed l.chain → ⊥)
      → Expected l.chain (earns paid l) a.numerator a.denominator
  reward_is (refused n p r e s) z u = absurd (formed.none n p r.applies)
  reward_is (stopped n p f t e s) z u =
      absurd (nought_and_twelve a.number z (number_is e ∙ stopped_twelve t.1))
  reward_is (answered f t (RewardFigure.missed m e) s) z u = absurd (u m)
  reward_is (answered f t (RewardFigure.expected u p q h e) s) z _ =
      subst (λ (z : Answer). Expected l.chain (earns paid l) z.numerator z.denominator) (sym e) h

  -- It refuses exactly when the goal is not missed and a kept row in lowest terms does not fit.
  pub reward_refuses : RewardOutcome l a w → (a.number ≡ 12) ↔ ((Missed l.chain → ⊥) × NoFitAnywhere (earns paid l) l)
  reward_refuses (refused n p r e s) = absurd (formed.none n p r.applies)
  reward_refuses (stopped n p f t e s) = (
    λ _. (t.0, stopped_large (earns paid l) l t.1),
    λ _. number_is e ∙ stopped_twelve t.1,
  )
  reward_refuses (answered f t g s) = (
    λ z. absurd (nought_and_twelve a.number (zero_number g) z),
    λ large. let u = large_stopped (earns paid l) l large.1 in absurd (t u.0 u.1 (large.0, u.2)),
  )
    where
      zero_number : RewardFigure l a → a.number ≡ 0
      zero_number (RewardFigure.missed m e) = number_is e
      zero_number (RewardFigure.expected u p q h e) = number_is e

pub reward_any_order : (l l' : Lent) → WellFormed paid l → WellFormed paid l' → l.chain ≡ l'.chain → l.rewards ≡ l'.rewards
    → (Missed l.chain → ⊥) → (a a' : Answer) (w w' : List ℕ)
    → RewardOutcome l a w → RewardOutcome l' a' w' → a.number ≡ 0 → a'.number ≡ 0
    → (a.numerator ≡ a'.numerator) × (a.denominator ≡ a'.denominator)
reward_any_order l l' formed formed' same paid' sure a a' w w' o o' z z' =
    expected_one (formed_fine paid l formed refl) (start_in paid l formed) sure (reward_is l formed a w o z sure)
    (rw (same, paid') (reward_is l' formed' a' w' o' z' (rw same at sure)))
