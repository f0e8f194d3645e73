-- What is answered where a file is opened.
use Rattle.std.specs.Prelude.{ℕ, ◌≤◌, ◌<◌, ◌≡◌, List, length, Result}
use Rattle.meaning.specs.Block.{Input}
use Rattle.meaning.specs.File.{no_reading}
use Rattle.chain.specs.declared.refusal.Refusal.{Refusal}
use Rattle.chainfile.specs.Tells.{OpenOutcome, told}
use Rattle.chainfile.specs.declared.Book.{Book}
use Rattle.opening.specs.Sizes.{edges_at}
use Rattle.opening.specs.Split.{split}

-- A table without room for the states is refused with 2; in any other the file is read as into four tables.
pub data OpeningOutcome (f : Input) (before : List ℕ) (r : Result Book Refusal) (after : List ℕ) : Type 0 where
  short : length before < edges_at → told r ≡ no_reading 2 0 → after ≡ before → OpeningOutcome f before r after
  read : edges_at ≤ length before → OpenOutcome f (split before) (told r) (split after) → OpeningOutcome f before r after
