-- The log of an elimination: plain numbers, how many records there are and then four for each, zeros past them.
use Rattle.std.specs.Prelude.{ℕ, ◌+◌, ◌*◌, ◌<◌, ◌≡◌, ◌⊎◌, Bool, List, [], ◌∷◌, ◌++◌, length, get_or}
use Rattle.meaning.specs.Number.{choose}
use Rattle.meaning.specs.Chain.{most_states}
use Rattle.meaning.specs.Steps.{StepRecord}

-- How many numbers a record has, and a log.
abbrev pub record_numbers : ℕ
record_numbers = 4

abbrev pub log_size : ℕ
log_size = 1 + record_numbers * most_states

-- The numbers of the records.
unfoldable pub numbers_of : List StepRecord → List ℕ
numbers_of [] = []
numbers_of (r ∷ rs) = r.state ∷ r.rows ∷ r.columns ∷ r.divisor ∷ numbers_of rs

-- The log holds these records, and zeros past them.
pub record HoldsRecords (log : List ℕ) (rs : List StepRecord) : Type 0 where
  pub size : length log ≡ log_size
  pub cells : (j : ℕ) → get_or log j 0 ≡ get_or (length rs ∷ numbers_of rs) j 0

-- A log that is asked for holds these records. An empty one is not asked for.
abbrev pub Logged : List ℕ → List StepRecord → Type 0
Logged log rs = (length log ≡ 0) ⊎ HoldsRecords log rs

-- A log that is asked for has room for one record more.
abbrev pub Roomy : List ℕ → Type 0
Roomy log = (length log ≡ 0) ⊎ ((length log ≡ log_size) × (get_or log 0 0 < most_states))

-- The records with r behind them where a state goes.
abbrev pub stepped : Bool → StepRecord → List StepRecord → List StepRecord
stepped go r rs = choose go (rs ++ (r ∷ [])) rs

-- What was logged before a turn, and after it: r is the record of the state, which is noted where it goes and its step is finished.
abbrev pub LoggedMore : Bool → StepRecord → List ℕ → List ℕ → Bool → Type 0
LoggedMore go r before after finished =
    (rs : List StepRecord) → Logged before rs → Logged after (choose finished (stepped go r rs) rs)
