-- The step list of a chain file (request 2): what is answered of an input, with a list of records that is lent.
use Rattle.std.specs.Prelude.{ℕ, ◌≡◌, List}
use Rattle.meaning.specs.Chain.{most_states}
use Rattle.meaning.specs.Refusal.{Lent, with_list}
use Rattle.meaning.specs.Outcome.{Answer, refusal}
use Rattle.meaning.specs.Steps.{StepRecord, StepsOutcome}
use Rattle.meaning.specs.Block.{Input}
use Rattle.meaning.specs.File.{FileRefused, Accepted, plain_in}

-- The file's refusal, 20 to 24, comes first and leaves the list. Else the companion is asked, with the tables of the file and a list of so
-- many records: 1 to 10, its 2 also for the list, or the chance and a record for each finished step.
pub data FileSteps (f : Input) (list : ℕ) (before : List StepRecord) (a : Answer) (count : ℕ) (after : List StepRecord) : Type 0 where
  file_refused : (number place : ℕ) → FileRefused f number place → a ≡ refusal number place → count ≡ 0 → after ≡ before
      → FileSteps f list before a count after
  asked : Accepted f → (work : List ℕ) → StepsOutcome (with_list list (plain_in f)) before a count work after
      → FileSteps f list before a count after

-- What the companion is lent of an accepted file where the list has room for the records of the largest chain.
abbrev pub listed_in : Input → Lent
listed_in f = with_list most_states (plain_in f)
