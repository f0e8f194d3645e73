-- The step list of a file by value.
use Rattle.std.specs.Prelude.{ℕ, ◌*◌, ◌≤◌, ◌<◌, ◌≡◌, [], get_or}
use Rattle.meaning.specs.Chain.{most_states}
use Rattle.meaning.specs.Block.{Input}
use Rattle.meaning.specs.FileSteps.{FileSteps}
use Rattle.engines.specs.Answer.{told_chance}
use Rattle.elimination.specs.Log.{record_numbers}
use Rattle.engines.specs.Trace.{count_in, records_in}
use Rattle.engines.specs.declared.answer.Trace.{Trace}

-- The outcome for a list of which nothing is known but how many records it has; and 0 past the last record.
pub record FileTraced (f : Input) (list : ℕ) (t : Trace) : Type 0 where
  pub outcome : FileSteps f list [] (told_chance t.chance) (count_in t.numbers) (records_in t.numbers)
  pub few : count_in t.numbers ≤ most_states
  pub inside : count_in t.numbers ≤ list
  pub past : (j : ℕ) → record_numbers * count_in t.numbers < j → get_or t.numbers j 0 ≡ 0
