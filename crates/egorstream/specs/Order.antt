-- What the face of the chosen order for C answers.
use Rattle.std.specs.Prelude.{ℕ, List, Result}
use Rattle.meaning.specs.Block.{Input}
use Rattle.meaning.specs.Choice.{Choice, FileChoice}
use Rattle.chain.specs.declared.refusal.Refusal.{Refusal}
use Rattle.choice.specs.Told.{told}
use Rattle.opening.specs.Asked.{Shown}
use Rattle.opening.specs.declared.book.Opened.{Opened}
use Rattle.egorstream.specs.declared.order.Ordered.{Ordered}

abbrev pub told_order : Ordered → Choice
told_order r = record { number = r.number; place = r.place; sum = r.sum }

-- What is chosen for the chain of an opened file: where this is f, it is what is chosen for f.
pub record Chosen (p : Opened) (before : List ℕ) (a : Result ℕ Refusal) (after : List ℕ) : Type 0 where
  pub of_file : (f : Input) → Shown f p → FileChoice f before (told a) after
