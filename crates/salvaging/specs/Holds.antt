-- What is left of an input, as the reader hands it over, and the place of a refusal.
use Rattle.std.specs.Prelude.{ℕ, ◌≤◌, ◌<◌, ◌≡◌, ◌⊎◌, List, [], length}
use Rattle.meaning.specs.Block.{Input}
use Rattle.meaning.specs.File.{most_blocks}
use Rattle.meaning.specs.Salvage.{Opened, left_in, verdict}
use Rattle.chain.specs.Refusal.{number_of}
use Rattle.chain.specs.declared.given.Given.{Given}
use Rattle.chain.specs.declared.refusal.Refusal.{Refusal}
use Rattle.chainfile.specs.Index.{Whole}
use Rattle.elimination.specs.Own.{ours}

-- The input is opened, and these are the verdicts on its blocks, its chain and its tables.
pub record Holds (f : Input) (lost : List ℕ) (g : Given) (order : List ℕ) : Type 0 where
  pub size : length lost ≡ most_blocks
  pub opened : Opened f (verdict lost)
  pub lent : ours g.chain g.denominators.now g.edges.now order [] ≡ left_in f (verdict lost)

-- The place that is told of a refusal: for 6 to 8 the index that is found, else its own.
pub data PlaceTold (f : Input) (v : ℕ → ℕ) (number place r : ℕ) : Type 0 where
  edge : 5 < number → number < 9 → Whole f v place r → PlaceTold f v number place r
  other : (number ≤ 5) ⊎ (9 ≤ number) → r ≡ place → PlaceTold f v number place r

-- A refusal is told with that place.
pub record InWhole (f : Input) (v : ℕ → ℕ) (x r : Refusal) : Type 0 where
  pub fault : r.fault ≡ x.fault
  pub place : PlaceTold f v (number_of x.fault) x.place r.place
