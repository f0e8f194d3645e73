-- A record in the words of `meaning`, and which records of a trace a list is given.
use Rattle.std.specs.Prelude.{ℕ, min, List}
use Rattle.meaning.specs.Number.{tab_from}
use Rattle.meaning.specs.Chain.{most_states}
use Rattle.meaning.specs.Steps.{StepRecord as Numbers}
use Rattle.steplist.specs.declared.StepRecord.{StepRecord}
use Rattle.engines.specs.declared.answer.Trace.{Trace}
use Rattle.engines.specs.Trace.{count_in, record_in}

-- The four numbers of a record.
abbrev pub told : StepRecord → Numbers
told r = record { state = r.state; rows = r.rows; columns = r.columns; divisor = r.divisor }

-- How many records of a trace a list with so much room is given: all where it has the room.
abbrev pub shown : Trace → ℕ → ℕ
shown t room = min (min (count_in t.numbers) most_states) room

-- The records of a trace that a list with so much room is given.
abbrev pub records_for : Trace → ℕ → List Numbers
records_for t room = tab_from 0 (shown t room) (record_in t.numbers)
