-- The plain numbers of an answer.
use Rattle.std.specs.Prelude.{◌^◌, ◌<◌, ◌≡◌}
use Rattle.meaning.specs.Outcome.{Answer as Numbers}
use Rattle.figures.specs.declared.answer.Answer.{Answer}

abbrev pub told_answer : Answer → Numbers
told_answer a = record { number = a.number; place = a.place; numerator = a.numerator; denominator = a.denominator }

-- The numbers of an answer, which have room in their types.
pub record Tells (r : Answer) (a : Numbers) : Type 0 where
  pub same : told_answer r ≡ a
  pub number : r.number < 2 ^ 32
  pub place : r.place < 2 ^ 64
  pub numerator : r.numerator < 2 ^ 64
  pub denominator : r.denominator < 2 ^ 64
