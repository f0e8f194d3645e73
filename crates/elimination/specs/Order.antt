-- What the walk through the order does to the table, and what stops it.
use Rattle.std.specs.Prelude.{◌≡◌, Bool, List, ℕ, suc, ◌≤◌, ◌<◌, get_or, Result, Ok, Err, ⊤}
use Rattle.meaning.specs.Step.{Table, goes, after}
use Rattle.meaning.specs.Steps.{StepRecord, records_along}
use Rattle.meaning.specs.Stop.{Unfit}
use Rattle.elimination.specs.Table.{table_of, Kept}
use Rattle.chain.specs.declared.refusal.Fault.TheVariants.{NoFit}
use Rattle.chain.specs.declared.refusal.Refusal.{Refusal}
use Rattle.elimination.specs.Turn.{Reached}
use Rattle.elimination.specs.declared.engine.Elimination.{Elimination}

-- Which states are removed at their turn.
abbrev pub going : Elimination → ℕ → Bool
going e = goes e.given.chain.start e.sets.live

-- Nothing stopped the walk up to the first p positions of the order; t q is the table after the first q.
abbrev pub UnstoppedWalk : Bool → ℕ → (ℕ → Table) → ℕ → Type 0
UnstoppedWalk b n t p = (q : ℕ) → q ≤ p → Unfit b n (t q) → ⊥

-- The walk is done: the table in w has become t n, in v.
pub record Finished (b : Bool) (n : ℕ) (t : ℕ → Table) (w v : List ℕ) : Type 0 where
  pub clear : UnstoppedWalk b n t n
  pub reached : Reached b n (t n) w v

-- A row of the table after the step of position p does not fit.
pub record Overflown (b : Bool) (n : ℕ) (t : ℕ → Table) (w v : List ℕ) (p : ℕ) : Type 0 where
  pub inside : p < n
  pub kept : Kept n w v
  pub clear : UnstoppedWalk b n t p
  pub unfit : Unfit b n (t (suc p))

abbrev pub walked : Bool → ℕ → (ℕ → Bool) → List ℕ → List ℕ → List ℕ → Result ⊤ Refusal → Type 0
walked b n go o w v (Ok _) = Finished b n (after b n go o (table_of n w)) w v
walked b n go o w v (Err r) = (r.fault ≡ NoFit) × Overflown b n (after b n go o (table_of n w)) w v r.place

-- How many positions of the order have a finished step.
abbrev pub walked_to : ℕ → Result ⊤ Refusal → ℕ
walked_to n (Ok _) = n
walked_to n (Err r) = r.place

-- The records of the first p positions of the walk that begins with the table in w.
abbrev pub records_walked : Bool → ℕ → (ℕ → Bool) → List ℕ → List ℕ → ℕ → List StepRecord
records_walked b n go o w p = records_along n go (λ q. get_or o q 0) (after b n go o (table_of n w)) p
