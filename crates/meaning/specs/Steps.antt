-- The step list (request 2): one record for each state that the exact engine removes, in the order of removal.
use Rattle.std.specs.Prelude.{ℕ, zero, suc, ◌<◌, ◌≡◌, Bool, List, [], ◌∷◌, ◌++◌, length, eqb}
use Rattle.meaning.specs.Number.{sum_to, choose, present, largest, filled}
use Rattle.meaning.specs.Chain.{most_states}
use Rattle.meaning.specs.Row.{Row, cell, unknown_column, divisor, exact}
use Rattle.meaning.specs.Step.{Table, row, Sets, Right, outside, combined, goes}
use Rattle.meaning.specs.Refusal.{Lent, listing, Refused, WellFormed}
use Rattle.meaning.specs.Stop.{earns, turn, table_at, Stopped}
use Rattle.meaning.specs.Outcome.{Outcome, Answer, refusal, ChanceFigure}

-- A record: the state; how many other kept rows had a weight to it; how many columns its row had a weight in; the largest divisor taken
-- out in that step.
pub record StepRecord : Type 0 where
  pub state : ℕ
  pub rows : ℕ
  pub columns : ℕ
  pub divisor : ℕ

-- How many rows but that of s have a weight to s. Rows that are not kept are zero and have none.
abbrev pub rows_to : ℕ → ℕ → Table → ℕ
rows_to n s t = sum_to (λ i. choose (eqb i s) 0 (present (cell (row t i) s))) n

-- In how many columns but its own the row p of s has a weight, of those before Unknown: the states, Goal and Trap.
abbrev pub columns_of : ℕ → ℕ → Row → ℕ
columns_of n s p = sum_to (λ j. choose (eqb j s) 0 (present (cell p j))) (unknown_column n)

-- The divisor that is taken out of the row r where s is removed, p being the row of s and d its D. Of the row of s itself, where `own` holds,
-- and of a row with no weight to s none is: that is 1.
unfoldable pub taken_out : ℕ → ℕ → Row → Bool → Row → ℕ
taken_out s d p own r = choose own 1 (choose (eqb (cell r s) 0) 1 (divisor (combined s d p r)))

-- The largest divisor taken out where s is removed from the table t.
abbrev pub largest_taken : ℕ → ℕ → Table → ℕ
largest_taken n s t = largest (λ i. taken_out s (outside n s (row t s)) (row t s) (eqb i s) (row t i)) n

-- The record of the removal of s from the table t: rows and columns as they are before the step, divisors of the rows that it makes.
unfoldable pub record_of : ℕ → ℕ → Table → StepRecord
record_of n s t =
    record { state = s; rows = rows_to n s t; columns = columns_of n s (row t s); divisor = largest_taken n s t }

-- The records of the first p positions of the order, t q being the table after the first q: one for each state that is removed at its turn.
unfoldable pub records_along : ℕ → (ℕ → Bool) → (ℕ → ℕ) → (ℕ → Table) → ℕ → List StepRecord
records_along n go o t zero = []
records_along n go o t (suc p) =
    choose (go (o p)) (records_along n go o t p ++ (record_of n (o p) (t p) ∷ [])) (records_along n go o t p)

-- The records of the first p positions of the order that is lent.
abbrev pub records_to : Lent → Sets → ℕ → List StepRecord
records_to l k p = records_along l.chain.states (goes l.chain.start k.live) (turn l) (table_at (earns listing l) exact l k) p

-- How many positions of the order have a finished step: all where there is an answer, those before the position that 12 names, none where
-- 12 comes before the first step.
pub data FinishedTo (l : Lent) (a : Answer) : ℕ → Type 0 where
  through : a.number ≡ 0 → FinishedTo l a l.chain.states
  before_steps : a.number ≡ 12 → a.place ≡ most_states → FinishedTo l a 0
  in_step : a.number ≡ 12 → a.place < l.chain.states → FinishedTo l a a.place

-- The list afterwards, and how many records were written; before, it has as many records as is said in what is lent. A refusal by 1 to 10
-- leaves it; else the records of the finished steps stand at its front, and all others stay.
pub data Listed (l : Lent) (a : Answer) (before : List StepRecord) (count : ℕ) (after : List StepRecord) : Type 0 where
  untouched : (number place : ℕ) → Refused listing l number place → count ≡ 0 → after ≡ before → Listed l a before count after
  listed : WellFormed listing l → (k : Sets) → Right l.chain k → (p : ℕ) → FinishedTo l a p → count ≡ length (records_to l k p)
      → after ≡ filled (records_to l k p) before → Listed l a before count after

-- The companion answers and refuses as the entry for the chance does, and also by 2 for the list.
pub record StepsOutcome (l : Lent) (before : List StepRecord) (a : Answer) (count : ℕ) (work : List ℕ) (after : List StepRecord) : Type 0 where
  pub outcome : Outcome listing l refusal (Stopped (earns listing l) exact l) (ChanceFigure l) a work
  pub list : Listed l a before count after
