-- What a trace holds: a step list in plain numbers, how many records there are and then four numbers for each.
use Rattle.std.specs.Prelude.{ℕ, ◌+◌, ◌*◌, ◌≤◌, ◌<◌, ◌≡◌, List, [], get_or}
use Rattle.meaning.specs.Number.{tab_from}
use Rattle.meaning.specs.Chain.{most_states}
use Rattle.meaning.specs.Refusal.{Lent}
use Rattle.meaning.specs.Steps.{StepRecord, StepsOutcome}
use Rattle.engines.specs.Answer.{told_chance}
use Rattle.elimination.specs.Log.{record_numbers}
use Rattle.engines.specs.declared.answer.Trace.{Trace}

-- How many records the numbers hold; record i, counted from 0; and all of them.
abbrev pub count_in : List ℕ → ℕ
count_in numbers = get_or numbers 0 0

abbrev pub record_in : List ℕ → ℕ → StepRecord
record_in numbers i =
    record {
      state = get_or numbers (record_numbers * i + 1) 0;
      rows = get_or numbers (record_numbers * i + 2) 0;
      columns = get_or numbers (record_numbers * i + 3) 0;
      divisor = get_or numbers (record_numbers * i + 4) 0;
    }

abbrev pub records_in : List ℕ → List StepRecord
records_in numbers = tab_from 0 (count_in numbers) (record_in numbers)

-- The companion's outcome, for a list of which nothing is known but how many records it has; and 0 past the last record.
pub record Traced (l : Lent) (t : Trace) (work : List ℕ) : Type 0 where
  pub outcome : StepsOutcome l [] (told_chance t.chance) (count_in t.numbers) work (records_in t.numbers)
  pub few : count_in t.numbers ≤ most_states
  pub inside : count_in t.numbers ≤ l.list
  pub past : (j : ℕ) → record_numbers * count_in t.numbers < j → get_or t.numbers j 0 ≡ 0
