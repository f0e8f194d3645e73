-- The rows of a chain in a work table, as it gives them.
use Rattle.std.specs.Prelude.{◌≡◌, false, List, ℕ, ◌<◌, Result, Ok, Err}
use Rattle.meaning.specs.Step.{Table, row}
use Rattle.meaning.specs.Near.{near_first}
use Rattle.meaning.specs.Refusal.{Lent, plain, Refused, WellFormed}
use Rattle.survey.specs.Sets.{Known, sets_of}
use Rattle.elimination.specs.Table.{part_at, Kept}
use Rattle.chain.specs.Refusal.{number_of}
use Rattle.chain.specs.declared.refusal.Refusal.{Refusal}
use Rattle.survey.specs.declared.Sets.{Sets}

-- The table in v holds the rows of t, number by number, and v is w past it.
pub record Lies (n : ℕ) (t : Table) (w v : List ℕ) : Type 0 where
  pub kept : Kept n w v
  pub rows : (i : ℕ) → i < n → part_at n v i ≡ row t i

-- What is said of an input, w being the work table afterwards.
abbrev pub laid : Lent → List ℕ → Result Sets Refusal → Type 0
laid l w (Ok sets) = WellFormed plain l × Known false l.chain sets × Lies l.chain.states (near_first l.chain (sets_of sets)) l.work w
laid l w (Err r) = Refused plain l (number_of r.fault) r.place × (w ≡ l.work)
