-- Which refusals end a report with a single line: those of the looking, and not 12.
use Prim.Native.Nat.{ℕ}
use mathlib.Core.Path.{◌≡◌, ap}
use mathlib.Core.List.{List}
use native.Mathlib.Omega.{arith}
use Rattle.std.proofs.Common.{Result, Ok, Err}
use Rattle.meaning.specs.Refusal.{Lent, Entry, paid, Refused, WellFormed}
use Rattle.meaning.specs.Outcome.{Answer, refusal, Outcome, RewardFigure, RewardOutcome}
use Rattle.theory.specs.Outcomes.DemandTwo.{stopped_twelve}
use Rattle.theory.specs.Outcomes.Places.{refused_places}
use Rattle.chain.specs.declared.fraction.Fraction.{Fraction}
use Rattle.chain.specs.declared.refusal.Refusal.{Refusal}
use Rattle.engines.specs.Answer.{told_chance, told_reward}
use Rattle.engines.specs.declared.answer.Reward.{Reward}
use Rattle.engines.specs.declared.answer.Reward.TheVariants as reward
use Rattle.report.specs.Lines.{Lasts, Ends}

-- The number 0 does not end a report.
pub nought : Ends 0 → ⊥
nought (Ends.chain l h) = omega arith
nought (Ends.file l h) = omega arith

-- The number 12 does not end a report.
pub twelve : {number : ℕ} → number ≡ 12 → Ends number → ⊥
twelve e (Ends.chain l h) = omega arith
twelve e (Ends.file l h) = omega arith

pub lasts_chance : (r : Result Fraction Refusal) → Lasts r → Ends (told_chance r).number → ⊥
lasts_chance (Ok f) h z = absurd (nought z)
lasts_chance (Err x) h z = h z

pub lasts_reward : (r : Result Reward Refusal) → Lasts r → Ends (told_reward r).number → ⊥
lasts_reward (Ok (reward.Is f)) h z = absurd (nought z)
lasts_reward (Ok reward.Infinite) h z = absurd (nought z)
lasts_reward (Err x) h z = h z

module _ {x : Entry} {l : Lent} {Stop : ℕ → ℕ → Type 0} {Figure : Answer → Type 0} (stops_12 : (n p : ℕ) → Stop n p → n ≡ 12)
    (says_0 : (a : Answer) → Figure a → a.number ≡ 0) {a : Answer} {w : List ℕ} where
  -- A number that ends the report is a refusal of the looking, and any other leaves the input well formed.
  pub ended : Outcome x l refusal Stop Figure a w → Ends a.number → Refused x l a.number a.place
  ended (Outcome.refused n p r e s) z = rw e r
  ended (Outcome.stopped n p f t e s) z = let q : a.number ≡ 12 = omega (arith, ap (λ (a : Answer). a.number) e, stops_12 n p t) in absurd (twelve q z)
  ended (Outcome.answered f t g s) z = absurd (nought (rw (← says_0 a g) z))

  pub lasts : Outcome x l refusal Stop Figure a w → (Ends a.number → ⊥) → WellFormed x l
  lasts (Outcome.refused n p r e s) h =
      let (some, most, near) = refused_places n p r in
      let same = ap (λ (a : Answer). a.number) e in absurd (h (Ends.chain (omega arith) (omega arith)))
  lasts (Outcome.stopped n p f t e s) h = f
  lasts (Outcome.answered f t g s) h = f

figure_nought : {l : Lent} (a : Answer) → RewardFigure l a → a.number ≡ 0
figure_nought a (RewardFigure.missed m e) = ap (λ (a : Answer). a.number) e
figure_nought a (RewardFigure.expected u p q h e) = ap (λ (a : Answer). a.number) e

module _ {l : Lent} {a : Answer} {w : List ℕ} (o : RewardOutcome l a w) where
  pub reward_ended : Ends a.number → Refused paid l a.number a.place
  reward_ended = ended (λ n p t. stopped_twelve t.1) figure_nought o

  pub reward_lasts : (Ends a.number → ⊥) → WellFormed paid l
  reward_lasts = lasts (λ n p t. stopped_twelve t.1) figure_nought o
