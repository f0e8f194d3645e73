-- What is read off the course of an elimination.
use Rattle.std.specs.Prelude.{ℕ, ◌+◌, ◌≤◌, eqb, Result, Ok, Err}
use Rattle.meaning.specs.Number.{choose}
use Rattle.meaning.specs.Chain.{M}
use Rattle.chain.specs.Reduce.{reduced}
use Rattle.chain.specs.declared.fraction.Fraction.{Fraction}
use Rattle.chain.specs.declared.refusal.Refusal.{Refusal}
use Rattle.elimination.specs.declared.course.Ends.{Ends}
use Rattle.engines.specs.declared.answer.Reward.{Reward}
use Rattle.engines.specs.declared.answer.Reward.TheVariants as reward
use Rattle.engines.specs.declared.answer.Bounds.{Bounds}

-- The fraction of two numbers, in lowest terms.
abbrev pub terms_of : ℕ → ℕ → Fraction
terms_of a b = reduced (record { numerator = a; denominator = b })

abbrev pub chance_in : Ends → Fraction
chance_in e = terms_of e.goal e.outside

abbrev pub reward_in : Ends → Reward
reward_in e = choose (eqb e.outside 0) reward.Infinite (reward.Is (terms_of e.reward e.outside))

abbrev pub bounds_in : Ends → Bounds
bounds_in e = record { lower = terms_of e.goal e.outside; upper = terms_of (e.goal + e.unknown) e.outside }

-- The same of a course, which may stop.
abbrev pub chance_of : Result Ends Refusal → Result Fraction Refusal
chance_of (Ok e) = Ok (chance_in e)
chance_of (Err r) = Err r

abbrev pub reward_of : Result Ends Refusal → Result Reward Refusal
reward_of (Ok e) = Ok (reward_in e)
reward_of (Err r) = Err r

abbrev pub bounds_of : Result Ends Refusal → Result Bounds Refusal
bounds_of (Ok e) = Ok (bounds_in e)
bounds_of (Err r) = Err r

-- Goal and Unknown can be added.
abbrev pub Summed : Result Ends Refusal → Type 0
Summed (Ok e) = e.goal + e.unknown ≤ M
Summed (Err r) = Unit {0}
