-- Near chances of a chain file, from its own start or from another state, and what the program prints of them.
use Rattle.std.specs.Prelude.{ℕ, ◌≡◌, List, [], ◌++◌, eqb}
use Rattle.meaning.specs.Number.{choose}
use Rattle.meaning.specs.Chain.{Chain}
use Rattle.meaning.specs.Refusal.{Lent, own_work}
use Rattle.meaning.specs.Block.{Input, head_states, head_start}
use Rattle.meaning.specs.File.{FileRefused, Accepted, goals_in, denominators_in, edges_in, orders_in}
use Rattle.meaning.specs.Buffer.{Writing}
use Rattle.meaning.specs.Text.{bytes_of}
use Rattle.meaning.specs.Report.{refused_text, TextOutcome}
use Rattle.meaning.specs.Near.{Near, near, NearOutcome}
use Rattle.meaning.specs.Miss.{MissOutcome}
use Rattle.meaning.specs.NearText.{near_text, near_room}

-- Where the chance is asked from: the file's own start, or a number that takes its place before anything of the chain is looked at.
pub data From : Type 0 where
  own : From
  state : ℕ → From

abbrev pub start_from : Input → From → ℕ
start_from f own = head_start f
start_from f (state i) = i

-- The chain of an accepted file with that start, and what an entry is lent.
abbrev pub chain_from : Input → From → Chain
chain_from f from =
    record {
      states = head_states f;
      start = start_from f from;
      goals = goals_in f;
      denominators = denominators_in f;
      edges = edges_in f;
    }

abbrev pub lent_from : Input → From → Lent
lent_from f from = own_work (chain_from f from) (orders_in f) []

-- The chance of reaching a goal, and that of missing every goal. The file is tested first, then its chain.
pub data FileNear (f : Input) (from : From) (chance miss : Near) : Type 0 where
  file_refused : (number place : ℕ) → FileRefused f number place → chance ≡ near number place 0 0 0 → miss ≡ near number place 0 0 0
      → FileNear f from chance miss
  asked : Accepted f → (w v : List ℕ) → NearOutcome (lent_from f from) chance w → MissOutcome (lent_from f from) miss v
      → FileNear f from chance miss

-- The two lines, or the line of a refusal, as `refused 9 at 3`.
abbrev pub near_lines : Near → Near → List ℕ
near_lines chance miss =
    choose (eqb chance.number 0) (near_text chance miss) (refused_text chance.number chance.place ++ bytes_of "\n")

-- t is what the program prints for the input f.
pub record NearReport (f : Input) (from : From) (t : List ℕ) : Type 0 where
  pub chance : Near
  pub miss : Near
  pub outcome : FileNear f from chance miss
  pub lines : t ≡ near_lines chance miss

abbrev pub NearReportOutcome : Input → From → List ℕ → Writing → List ℕ → Type 0
NearReportOutcome f from = TextOutcome near_room (NearReport f from)
