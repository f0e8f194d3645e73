-- The numbers of an answer determine its case.
use mathlib.Core.Path.{◌≡◌, refl, ap, ap₂}
use native.Mathlib.Omega.{arith}
use Rattle.meaning.specs.Outcome.{Answer, Bounds as Between}
use Rattle.chain.specs.declared.fraction.Fraction.{Fraction}
use Rattle.chain.proofs.Unique.{joined}
use Rattle.engines.specs.Answer.{told_chance, told_reward, told_bounds, ProperChance, ProperReward, ProperBounds}
use Rattle.std.specs.Prelude.{Result, Ok, Err}
use Rattle.chain.specs.declared.refusal.Refusal.{Refusal}
use Rattle.chain.proofs.Faults.{above_0, one_refusal}
use Rattle.engines.specs.declared.answer.Reward.{Reward}
use Rattle.engines.specs.declared.answer.Reward.TheVariants as reward
use Rattle.engines.specs.declared.answer.Bounds.{Bounds}

module _ {a b : Answer} (e : a ≡ b) where
  number : a.number ≡ b.number
  number = ap (λ (a : Answer). a.number) e

  place : a.place ≡ b.place
  place = ap (λ (a : Answer). a.place) e

  numerator : a.numerator ≡ b.numerator
  numerator = ap (λ (a : Answer). a.numerator) e

  denominator : a.denominator ≡ b.denominator
  denominator = ap (λ (a : Answer). a.denominator) e

pub chance_told : (a b : Result Fraction Refusal) → ProperChance a → ProperChance b → told_chance a ≡ told_chance b → a ≡ b
chance_told (Ok f) (Ok g) p q e = ap (λ (f : Fraction). Ok f) (joined (numerator e) (denominator e))
chance_told (Ok f) (Err r) p q e = absurd (omega (arith, number e, above_0 r.fault))
chance_told (Err r) (Ok f) p q e = absurd (omega (arith, number e, above_0 r.fault))
chance_told (Err r) (Err s) p q e = ap (λ (r : Refusal). Err r) (one_refusal r s (number e) (place e))

pub reward_told : (a b : Result Reward Refusal) → ProperReward a → ProperReward b → told_reward a ≡ told_reward b → a ≡ b
reward_told (Ok (reward.Is f)) (Ok (reward.Is g)) p q e = ap (λ (f : Fraction). Ok (reward.Is f)) (joined (numerator e) (denominator e))
reward_told (Ok (reward.Is f)) (Ok reward.Infinite) p q e = absurd (omega (arith, denominator e))
reward_told (Ok (reward.Is f)) (Err r) p q e = absurd (omega (arith, number e, above_0 r.fault))
reward_told (Ok reward.Infinite) (Ok (reward.Is f)) p q e = absurd (omega (arith, denominator e))
reward_told (Ok reward.Infinite) (Ok reward.Infinite) p q e = refl
reward_told (Ok reward.Infinite) (Err r) p q e = absurd (omega (arith, number e, above_0 r.fault))
reward_told (Err r) (Ok (reward.Is f)) p q e = absurd (omega (arith, number e, above_0 r.fault))
reward_told (Err r) (Ok reward.Infinite) p q e = absurd (omega (arith, number e, above_0 r.fault))
reward_told (Err r) (Err s) p q e = ap (λ (r : Refusal). Err r) (one_refusal r s (number e) (place e))

pub bounds_told : (a b : Result Bounds Refusal) → ProperBounds a → ProperBounds b → told_bounds a ≡ told_bounds b → a ≡ b
bounds_told (Ok a) (Ok b) p q e =
    ap₂ (λ (f g : Fraction). Ok (record { lower = f; upper = g }))
    (joined (ap (λ (a : Between). a.lower_numerator) e) (ap (λ (a : Between). a.lower_denominator) e))
    (joined (ap (λ (a : Between). a.upper_numerator) e) (ap (λ (a : Between). a.upper_denominator) e))
bounds_told (Ok b) (Err r) p q e = absurd (omega (arith, ap (λ (a : Between). a.number) e, above_0 r.fault))
bounds_told (Err r) (Ok b) p q e = absurd (omega (arith, ap (λ (a : Between). a.number) e, above_0 r.fault))
bounds_told (Err r) (Err s) p q e = ap (λ (r : Refusal). Err r) (one_refusal r s (ap (λ (a : Between). a.number) e) (ap (λ (a : Between). a.place) e))
