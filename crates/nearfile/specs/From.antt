-- Where a chance is asked from, in the words of meaning: from the file's own start, or from a number that takes its place.
use Rattle.std.specs.Prelude.{ℕ, Option, Some, None, Result}
use Rattle.meaning.specs.Block.{Input}
use Rattle.meaning.specs.FileNear.{FileNear}
use Rattle.meaning.specs.FileNear as asked
use Rattle.chain.specs.declared.refusal.Refusal.{Refusal}
use Rattle.near.specs.Answer.{told_near, told_miss}
use Rattle.near.specs.declared.answer.Figures.{Figures}
use Rattle.opening.specs.Asked.{Shown}
use Rattle.opening.specs.declared.book.Opened.{Opened}

abbrev pub from_of : Option ℕ → asked.From
from_of None = asked.own
from_of (Some i) = asked.state i

-- The start, where the file's own is given.
abbrev pub start_of : Option ℕ → ℕ → ℕ
start_of None own = own
start_of (Some i) own = i

-- What is answered of the parts of a file.
pub record NearFrom (p : Opened) (from : Option ℕ) (r : Result Figures Refusal) : Type 0 where
  pub told : (f : Input) → Shown f p → FileNear f (from_of from) (told_near r) (told_miss r)
