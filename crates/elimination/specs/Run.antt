-- What the elimination of an input comes to.
use Rattle.std.specs.Prelude.{◌≡◌, Bool, true, List, ℕ, ◌≤◌, ◌<◌, length, ltb, Result, Ok, Err}
use Rattle.meaning.specs.Number.{choose}
use Rattle.meaning.specs.Chain.{Goal, End, PathTo, LiveTo}
use Rattle.meaning.specs.Row.{Row, cell, goal_column, unknown_column, reward, rounding}
use Rattle.meaning.specs.Step.{Table, row, Sets, RightTo, outside, goes, unknown, stage_from}
use Rattle.meaning.specs.Steps.{StepRecord, records_along}
use Rattle.meaning.specs.Refusal.{Lent}
use Rattle.meaning.specs.Stop.{turn, Unfit, Stopped}
use Rattle.elimination.specs.First.{Makeable}
use Rattle.chain.specs.Refusal.{number_of}
use Rattle.chain.specs.declared.refusal.Refusal.{Refusal}
use Rattle.elimination.specs.declared.course.Ends.{Ends}

-- What is read off a row.
abbrev pub ends : ℕ → ℕ → ℕ → ℕ → Ends
ends goal unsure rewards outside = record { goal = goal; unknown = unsure; reward = rewards; outside = outside }

-- What is read off the row z of the start s.
abbrev pub end_of : ℕ → ℕ → Row → Ends
end_of n s z = ends (cell z (goal_column n)) (cell z (unknown_column n)) (reward n z) (outside n s z)

-- What an elimination asks for.
pub record Begun (b paid short : Bool) (l : Lent) (k : Sets) : Type 0 where
  pub asked : Makeable b paid short l.chain k l.rewards l.work
  pub rounds : short ≡ true → b ≡ rounding
  pub orders : length l.order ≡ l.chain.states
  pub inside : (p : ℕ) → p < l.chain.states → turn l p < l.chain.states
  pub start : l.chain.start < l.chain.states

-- The table after the first p positions of the order, where a turn earns what pay says and rows may fall short or not. Where none may it is
-- meaning's tableAt.
abbrev pub table_from : (ℕ → ℕ) → Bool → Bool → Lent → Sets → ℕ → Table
table_from pay short b l k p = stage_from b l.chain k pay (unknown short l.chain) l.order p

-- It runs through, and these are read off the start's row at the end.
pub record Ended (pay : ℕ → ℕ) (short b : Bool) (l : Lent) (k : Sets) (e : Ends) : Type 0 where
  pub passed : (q : ℕ) → q ≤ l.chain.states → Unfit b l.chain.states (table_from pay short b l k q) → ⊥
  pub read : e ≡ end_of l.chain.states l.chain.start (row (table_from pay short b l k l.chain.states) l.chain.start)

-- What the figures are read off: no row is made where the start is a goal or has no path to an end; else it is live, and these are read.
pub data Read (pay : ℕ → ℕ) (short b : Bool) (l : Lent) (e : Ends) : Type 0 where
  won : Goal l.chain l.chain.start → e ≡ ends 1 0 0 1 → Read pay short b l e
  lost : (PathTo l.chain.edges (End short l.chain) l.chain.start → ⊥) → e ≡ ends 0 0 0 1 → Read pay short b l e
  live : (k : Sets) → RightTo l.chain (End short l.chain) k → LiveTo l.chain (End short l.chain) l.chain.start → Ended pay short b l k e
      → Read pay short b l e

-- The figures can be read off, or something stops the elimination: nothing does where rows may fall short, since they are rounded there.
abbrev pub runs : (ℕ → ℕ) → Bool → Bool → Lent → Result Ends Refusal → Type 0
runs pay short b l (Ok e) = Read pay short b l e
runs pay short b l (Err r) = Stopped pay b l (number_of r.fault) r.place

-- How many positions of the order have a finished step: none where 12 comes before the first step, at 64.
abbrev pub finished_in : ℕ → Result Ends Refusal → ℕ
finished_in n (Ok e) = n
finished_in n (Err r) = choose (ltb r.place n) r.place 0

-- The records of the first p positions.
abbrev pub records_run : (ℕ → ℕ) → Bool → Bool → Lent → Sets → ℕ → List StepRecord
records_run pay short b l k p = records_along l.chain.states (goes l.chain.start k.live) (turn l) (table_from pay short b l k) p
