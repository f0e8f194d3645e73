-- The two fractions of an answer are those of the definition, from the weights that the last row's words stand for.
use Rattle.std.specs.Prelude.{◌≡◌, ℕ, Result, Ok, Err}
use Rattle.meaning.specs.Near.{Near, near, near_from}
use Rattle.meaning.specs.Miss.{miss_from}
use Rattle.chain.specs.Refusal.{number_of}
use Rattle.chain.specs.declared.refusal.Refusal.{Refusal}
use Rattle.near.specs.declared.answer.Between.{Between}
use Rattle.near.specs.declared.answer.Figures.{Figures}

-- The two fractions are those of a near answer.
pub record Tells (a : Near) (r : Between) : Type 0 where
  pub lower : r.lower ≡ a.lower
  pub upper : r.upper ≡ a.upper
  pub twos : r.twos ≡ a.twos

abbrev pub Answers : ℕ → ℕ → ℕ → Between → Type 0
Answers G D rows r = Tells (near_from G D rows) r

abbrev pub Misses : ℕ → ℕ → ℕ → Between → Type 0
Misses T D rows r = Tells (miss_from T D rows) r

-- What is told of the chance, and of missing.
abbrev pub told_between : Between → Near
told_between r = near 0 0 r.lower r.upper r.twos

abbrev pub told_near : Result Figures Refusal → Near
told_near (Ok f) = told_between f.chance
told_near (Err r) = near (number_of r.fault) r.place 0 0 0

abbrev pub told_miss : Result Figures Refusal → Near
told_miss (Ok f) = told_between f.miss
told_miss (Err r) = near (number_of r.fault) r.place 0 0 0

-- The fractions of a chance that is known; and of one with that of missing.
abbrev pub known : ℕ → Between
known chance = record { lower = chance; upper = chance; twos = 0 }

abbrev pub known_as : ℕ → ℕ → Figures
known_as goal miss = record { chance = known goal; miss = known miss }
