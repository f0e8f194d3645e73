-- Document 01's numbers for each case of an answer.
use Rattle.std.specs.Prelude.{◌<◌, Result, Ok, Err}
use Rattle.meaning.specs.Outcome.{Answer, refusal, fraction, infinite, Bounds as Between, no_bounds, between}
use Rattle.chain.specs.Refusal.{number_of}
use Rattle.chain.specs.declared.fraction.Fraction.{Fraction}
use Rattle.chain.specs.declared.refusal.Refusal.{Refusal}
use Rattle.engines.specs.declared.answer.Reward.{Reward}
use Rattle.engines.specs.declared.answer.Reward.TheVariants as reward
use Rattle.engines.specs.declared.answer.Bounds.{Bounds}

abbrev pub told_chance : Result Fraction Refusal → Answer
told_chance (Ok f) = fraction f.numerator f.denominator
told_chance (Err r) = refusal (number_of r.fault) r.place

abbrev pub told_reward : Result Reward Refusal → Answer
told_reward (Ok (reward.Is f)) = fraction f.numerator f.denominator
told_reward (Ok reward.Infinite) = infinite
told_reward (Err r) = refusal (number_of r.fault) r.place

abbrev pub told_bounds : Result Bounds Refusal → Between
told_bounds (Ok b) = between b.lower.numerator b.lower.denominator b.upper.numerator b.upper.denominator
told_bounds (Err r) = no_bounds (number_of r.fault) r.place

-- A case that means what its numbers say: a fraction's denominator is above 0. Such an answer is fixed by its numbers.
abbrev pub ProperChance : Result Fraction Refusal → Type 0
ProperChance (Ok f) = 0 < f.denominator
ProperChance (Err r) = Unit {0}

abbrev pub ProperReward : Result Reward Refusal → Type 0
ProperReward (Ok (reward.Is f)) = 0 < f.denominator
ProperReward (Ok reward.Infinite) = Unit {0}
ProperReward (Err r) = Unit {0}

abbrev pub ProperBounds : Result Bounds Refusal → Type 0
ProperBounds (Ok b) = (0 < b.lower.denominator) × (0 < b.upper.denominator)
ProperBounds (Err r) = Unit {0}
