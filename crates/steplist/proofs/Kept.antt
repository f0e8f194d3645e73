-- A record of a trace as the code keeps it.
use Prim.Native.Nat.{ℕ}
use Rattle.meaning.specs.Steps.{StepRecord as Numbers}
use Rattle.steplist.specs.declared.StepRecord.{StepRecord}
use Rattle.engines.specs.declared.answer.Trace.{Trace}
use Rattle.engines.specs.Trace.{record_in}

abbrev pub untold : Numbers → StepRecord
untold r = record { state = r.state; rows = r.rows; columns = r.columns; divisor = r.divisor }

abbrev pub record_at : Trace → ℕ → StepRecord
record_at t i = untold (record_in t.numbers i)
