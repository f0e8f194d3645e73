-- What is written of the chain and tables of an accepted file.
use Rattle.std.specs.Prelude.{ℕ, List}
use Rattle.meaning.specs.Block.{Input}
use Rattle.meaning.specs.Write.{Bytes}
use Rattle.meaning.specs.Reorder.{ReorderOutcome}
use Rattle.chainwriter.specs.Tells.{Writing, told}
use Rattle.opening.specs.Asked.{Shown}
use Rattle.opening.specs.declared.book.Opened.{Opened}

-- Where these are the chain and tables of f, it is what is answered of f.
pub record Rewritten (p : Opened) (before : List ℕ) (a : Writing) (after : List ℕ) : Type 0 where
  pub of_file : (f : Input) → Bytes f.kept → Shown f p → ReorderOutcome f before (told a) after
