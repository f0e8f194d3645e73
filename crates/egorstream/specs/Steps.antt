-- What the step list's face answers, in the words of `meaning`.
use Rattle.std.specs.Prelude.{◌+◌, ◌≤◌, ◌≡◌}
use Rattle.meaning.specs.Chain.{most_states, most_edges}
use Rattle.meaning.specs.Outcome.{Answer}
use Rattle.engines.specs.Answer.{told_chance}
use Rattle.engines.specs.Trace.{count_in}
use Rattle.engines.specs.declared.answer.Trace.{Trace}
use Rattle.egorstream.specs.declared.steps.Stepped.{Stepped}

abbrev pub answer_of : Stepped → Answer
answer_of r = record { number = r.number; place = r.place; numerator = r.numerator; denominator = r.denominator }

-- A place that C's 32 bits have room for.
abbrev pub SmallPlace : Trace → Type 0
SmallPlace t = (told_chance t.chance).place ≤ most_states + most_edges

-- The answer's numbers are the trace's, and its count.
pub record Replies (t : Trace) (r : Stepped) : Type 0 where
  pub answer : answer_of r ≡ told_chance t.chance
  pub count : r.count ≡ count_in t.numbers
